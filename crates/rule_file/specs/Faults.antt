-- The first fault of an agent's file. The top table is looked at first, and then each inner one in the order of the file, list by list. In each
-- table these are tried in turn: a key that isn't known, one that is missing, a value that is wrong, a list that is too long.
use Rattle.std.specs.Prelude.{ℕ, Bool, false, not, ◌&&◌, nat_lt, is_none, List, [], ◌∷◌, ◌++◌, length, map, find, flat_map, Option, Some, None, option_map, bytes_eq, codes}
use Rattle.std.specs.List.{filter_map, list_any}
use Rattle.std.specs.Option.{option_map_or}
use Rattle.ti_ids.specs.Maybe.{◌>>=◌}
use Rattle.toml.specs.Data.{Data, Members, no_members, member, get_member, as_str, as_table}
use Rattle.ti_codes.specs.declared.call.CallKind.{CallKind}
use Rattle.ti_codes.specs.Calls.{arguments_of}
use Rattle.class_tree.specs.Tree.{first_of}
use Rattle.jv_names.specs.Names.{Name}
use Rattle.job_words.specs.Options.{units_of}
use Rattle.job_words.specs.declared.agent_fault.AgentFault.{AgentFault}
use Rattle.job_words.specs.declared.agent_fault.AgentFault.TheVariants as faults
use Rattle.rule_file.specs.Keys.{Key, RuleKind, items_of, key_of, top_keys, set_keys, rule_named, rule_kind_key, rule_keys, own_rule_keys, call_named, call_key, script_keys, callback_keys}

-- ---- one table

-- the keys of a table, in the order of their bytes
abbrev pub keys_in : Members → List (List ℕ)
keys_in no_members = []
keys_in (member k d ms) = k ∷ keys_in ms

abbrev pub is_known : List Key → List ℕ → Bool
is_known keys name = list_any (λ k. bytes_eq name k.name) keys

-- the least key by its bytes that the table may not have
abbrev pub unknown_in : List Key → Members → Option (List ℕ)
unknown_in keys ms = find (λ name. not (is_known keys name)) (keys_in ms)

abbrev pub is_missing : Members → Key → Bool
is_missing ms k = k.must && is_none (get_member k.name ms)

abbrev pub is_wrong : Members → Key → Bool
is_wrong ms k = option_map_or (λ d. not (k.fits d)) (get_member k.name ms) false

abbrev pub item_count : Data → ℕ
item_count d = option_map_or (λ ds. length ds) (items_of d) 0

abbrev pub is_too_long : Members → Key → Bool
is_too_long ms k = option_map_or (λ most. option_map_or (λ d. nat_lt most (item_count d)) (get_member k.name ms) false) k.most false

-- the fault that names a key
abbrev pub named_by : (Name → AgentFault) → List ℕ → AgentFault
named_by fault name = fault (units_of name)

-- the first of these keys of which this is true, as a fault
abbrev pub fault_at : (Name → AgentFault) → (Key → Bool) → List Key → Option AgentFault
fault_at fault test keys = option_map (λ k. named_by fault k.name) (find test keys)

abbrev pub first_fault : List (Option AgentFault) → Option AgentFault
first_fault found = first_of (λ (fault : Option AgentFault). fault) found

-- of a table whose keys are these
abbrev pub table_fault : List Key → Members → Option AgentFault
table_fault keys ms = first_fault (
    option_map (named_by faults.Unknown) (unknown_in keys ms)
    ∷ fault_at faults.Missing (is_missing ms) keys
    ∷ fault_at faults.Kind (is_wrong ms) keys
    ∷ fault_at faults.TooMany (is_too_long ms) keys
    ∷ [])

-- of one that doesn't say what it is: only the key that would say so can be missing, and none is unknown
abbrev pub unnamed_fault : Key → List Key → Members → Option AgentFault
unnamed_fault naming keys ms = first_fault (
    fault_at faults.Missing (is_missing ms) (naming ∷ [])
    ∷ fault_at faults.Kind (is_wrong ms) keys
    ∷ [])

-- ---- the inner tables

-- the tables of a list, if the table has the list
abbrev pub tables_in : List ℕ → Members → List Members
tables_in name ms = option_map_or (filter_map as_table) (get_member name ms >>= items_of) []

-- the names of sets, and those of a file's
abbrev pub sets_named : List Members → List (List ℕ)
sets_named sets = filter_map (λ set. get_member (codes "name") set >>= as_str) sets

abbrev pub sets_in : Members → List (List ℕ)
sets_in ms = sets_named (tables_in (codes "set") ms)

-- of sets, behind sets of these names
abbrev pub set_faults : List (List ℕ) → List Members → List (Option AgentFault)
set_faults earlier [] = []
set_faults earlier (set ∷ sets) = table_fault (set_keys earlier) set ∷ set_faults (sets_named (set ∷ []) ++ earlier) sets

module _ (donors : ℕ) (sets : List (List ℕ)) where
  abbrev pub rule_fault_of : Members → Option RuleKind → Option AgentFault
  rule_fault_of ms None = unnamed_fault rule_kind_key (rule_keys sets) ms
  rule_fault_of ms (Some kind) = table_fault (rule_keys sets ++ own_rule_keys donors kind) ms

  abbrev pub rule_fault : Members → Option AgentFault
  rule_fault ms = rule_fault_of ms (rule_named ms)

  -- of a call, which may have these keys besides its arguments
  abbrev pub call_fault_of : (CallKind → List Key) → Members → Option CallKind → Option AgentFault
  call_fault_of more ms None = unnamed_fault call_key (call_key ∷ []) ms
  call_fault_of more ms (Some call) = table_fault (call_key ∷ map (key_of donors sets) (arguments_of call) ++ more call) ms

  abbrev pub call_fault : Members → Option AgentFault
  call_fault ms = call_fault_of (λ call. []) ms (call_named ms)

  abbrev pub script_fault : Members → Option AgentFault
  script_fault ms = call_fault_of script_keys ms (call_named ms)

  -- a callback, and then its calls
  abbrev pub callback_faults : Members → List (Option AgentFault)
  callback_faults ms = table_fault callback_keys ms ∷ map call_fault (tables_in (codes "calls") ms)

-- ---- the whole

abbrev pub document_fault : ℕ → Members → Option AgentFault
document_fault donors ms =
    let sets = sets_in ms in
    let lists =
    set_faults [] (tables_in (codes "set") ms)
    ++ map (rule_fault donors sets) (tables_in (codes "rule") ms)
    ++ map (call_fault donors sets) (tables_in (codes "load") ms)
    ++ map (script_fault donors sets) (tables_in (codes "script") ms)
    ++ flat_map (callback_faults donors sets) (tables_in (codes "on") ms)
    in first_fault (table_fault top_keys ms ∷ lists)
