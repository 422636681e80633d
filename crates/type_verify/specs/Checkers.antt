-- How the code holds a method that is checked.
use Rattle.std.specs.Prelude.{◌≡◌, ℕ, ◌<◌, ◌^◌, ℤ, pos, nat_lt, All, Option, None, Some, option_map, map, length, Ok, if◌then◌else◌}
use Rattle.class_code.specs.Listing.{IsRising}
use Rattle.type_frames.specs.Seen.{type_seen}
use Rattle.type_frames.specs.TypeChecks.{Checked}
use Rattle.type_rules.specs.Methods.{env_of}
use Rattle.type_verify.specs.declared.checker.Checker.{Checker}

abbrev pub checked_of : Checker → Checked
checked_of c = record {
  env = env_of c.method;
  this = option_map (λ types. map type_seen types.items) c.this;
  parameters = map type_seen c.parameters.items;
  max_locals = c.max_locals;
  map = Ok c.map;
  handlers = c.handlers.now;
}

-- the offsets rise, and each state of the map has an offset of code, and as many words of locals as the method
pub record IsReady (c : Checker) : Type 0 where
  pub rising : IsRising c.method.instrs.now
  pub short : All (λ f. f.at < 2 ^ 16) c.map
  pub rooms : All (λ f. length f.locals ≡ c.max_locals) c.map

-- a place of code, of which each offset fits 16 bits
abbrev pub offset_in_code : ℤ → Option ℕ
offset_in_code (pos at) = if nat_lt at 65536 then Some at else None
offset_in_code target = None
