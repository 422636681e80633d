use Rattle.monitor_table.proofs.Calls.{IsAdded, IsTable-first}
use Rattle.monitor_table.proofs.table.Monitors.add.Goals as goal
use Rattle.monitor_table.proofs.table.Monitors.add.Goals.{After-insert_reserved}

-- what the steps of the call have made
added : (c : After-insert_reserved) → IsAdded c.args.thread c.self.inside.places.items c.put.new.places.items c.self.inside.monitors c.reserve.new.self c.insert_reserved.new.self c.args.object c.vacant_key.result c.insert_reserved.result c.new.result
added c = record {
  room_made = c.in_ok-reserve.ensures.rest_kept;
  key_is_next = c.vacant_key.ensures.value;
  key_was_vacant = c.vacant_key.ensures.vacant;
  place = c.in_ok-put.ensures.put;
  stored_is_next = c.insert_reserved.ensures.key;
  value_made = c.new.ensures;
  monitor = c.insert_reserved.ensures.updates;
}

pub invariant_of-self-2 : goal.invariant_of-self-2
invariant_of-self-2 c =
    (IsTable-first (added c) c.self.invariant (rw (← c.self.view_is) at c.requires.free)).indexed

pub returns-clause-added : goal.returns-clause-added
returns-clause-added c =
    rw (← c.self.view_is) (IsTable-first (added c) c.self.invariant (rw (← c.self.view_is) at c.requires.free)).shows
