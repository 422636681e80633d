-- How the code holds what the rules know of a method.
use Rattle.std.specs.Prelude.{ℕ, ◌==◌, if◌then◌else◌, List, [], ◌∷◌, Option, Some, None, option_map, option_copied}
use Rattle.std.specs.Option.{option_or}
use Rattle.ti_ids.specs.Maybe.{◌>>=◌}
use Rattle.jv_names.specs.Names.{Name}
use Rattle.type_frames.specs.Environments.{Environment}
use Rattle.type_frames.specs.Types.{front}
use Rattle.type_frames.specs.States.{State, all_put}
use Rattle.type_frames.specs.RulesOfStack.{one, two}
use Rattle.type_frames.specs.Seen.{type_seen}
use Rattle.type_rules.specs.declared.method.Method.{Method}

abbrev pub env_of : Method → Environment
env_of m = record {
  hierarchy = m.hierarchy.now;
  pool = m.tree.now.pool;
  class = m.class.now;
  parent = option_copied m.parent;
  is_init = m.is_init;
  result = option_map type_seen m.result;
  max_stack = m.max_stack;
  instrs = m.instrs.now;
}

-- the class of an array's components, from behind the first unit of its descriptor
abbrev pub component_behind : Name → Option Name
component_behind [] = None
component_behind (next ∷ units) = if next == 91 then Some (next ∷ units) else if next == 76 then Some (front units) else None

-- `dup2_x2` of a long, and of two words
abbrev pub long_over_any : ℕ → State → Option State
long_over_any room s = two s >>= λ a. option_or
    (two a.1 >>= λ b. all_put room (a.0 ∷ b.0 ∷ a.0 ∷ []) b.1)
    (one a.1 >>= λ b. one b.1 >>= λ c. all_put room (a.0 ∷ c.0 ∷ b.0 ∷ a.0 ∷ []) c.1)

abbrev pub words_over_any : ℕ → State → Option State
words_over_any room s = one s >>= λ a. one a.1 >>= λ b. option_or
    (two b.1 >>= λ c. all_put room (b.0 ∷ a.0 ∷ c.0 ∷ b.0 ∷ a.0 ∷ []) c.1)
    (one b.1 >>= λ c. one c.1 >>= λ d. all_put room (b.0 ∷ a.0 ∷ d.0 ∷ c.0 ∷ b.0 ∷ a.0 ∷ []) d.1)
