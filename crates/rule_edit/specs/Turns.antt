-- What a set's rules make of the bytes of a class: the rules that are for the class, one after the other.
use Rattle.std.specs.Prelude.{ℕ, ◌&&◌, List, [], ◌∷◌, filter, Option, Some, None, bytes_eq}
use Rattle.ti_ids.specs.Maybe.{◌>>=◌}
use Rattle.jv_names.specs.Names.{Name}
use Rattle.agent_types.specs.declared.rule.Rule.{Rule}
use Rattle.transform_chain.specs.Turns.{Does}
use Rattle.rule_edit.specs.Edits.{edited}

-- those of a set that are for a class, in the order of the file
abbrev pub rules_for : List Rule → Name → Name → List Rule
rules_for rules set class = filter (λ r. bytes_eq r.set set && bytes_eq r.class class) rules

module _ (donors : List (List ℕ)) where
  -- the bytes after all of these, or nothing where one fails
  abbrev pub applied : List Rule → List ℕ → Option (List ℕ)
  applied [] bytes = Some bytes
  applied (r ∷ rs) bytes = edited donors r.edit bytes >>= applied rs

  -- where there are none, nothing is made
  abbrev pub made_by : List Rule → List ℕ → Option (List ℕ)
  made_by [] bytes = None
  made_by (r ∷ rs) bytes = applied (r ∷ rs) bytes

  -- the turn of a set
  abbrev pub set_turn : List Rule → Name → Does
  set_turn rules set class bytes = made_by (rules_for rules set class) bytes
