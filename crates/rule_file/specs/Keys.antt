-- The tables of an agent's file: the keys of each, what may stand for them, and which keys must stand.
use Rattle.std.specs.Prelude.{ℕ, ◌^◌, ℤ, pos, negsuc, Bool, true, false, not, ◌&&◌, ◌||◌, ◌==◌, nat_le, nat_lt, List, [], ◌∷◌, ◌++◌, length, map, find, Option, Some, None, is_some, bytes_eq, codes, if◌then◌else◌}
use Rattle.std.specs.List.{list_all, list_any}
use Rattle.std.specs.Option.{option_map_or}
use Rattle.ti_ids.specs.Maybe.{◌>>=◌}
use Rattle.toml.specs.Data.{Data, string, integer, boolean, array, table, Items, no_items, item, Members, get_member, as_str, as_integer}
use Rattle.ti_codes.specs.declared.capability.Capability.{Capability}
use Rattle.ti_codes.specs.Capabilities.{all_capabilities, capability_name}
use Rattle.ti_codes.specs.declared.call.CallKind.{CallKind}
use Rattle.ti_codes.specs.Calls.{call_of_name, arguments_of}
use Rattle.ti_codes.specs.Events.{event_of_name}
use Rattle.ti_codes.specs.Arguments.{ArgumentKind, Argument, Text, SetName, Truth, Whole, Signed, EventGiven, CapabilityName, DonorNumber}

-- ---- values of TOML

-- the items of an array, in order
abbrev pub listed : Items → List Data
listed no_items = []
listed (item d ds) = d ∷ listed ds

abbrev pub items_of : Data → Option (List Data)
items_of (array ds) = Some (listed ds)
items_of _ = None

abbrev pub is_table : Data → Bool
is_table (table ms) = true
is_table _ = false

-- a whole number of 32 bits without a sign, and one with a sign
abbrev pub is_whole : ℤ → Bool
is_whole (pos n) = nat_lt n (2 ^ 32)
is_whole (negsuc n) = false

abbrev pub is_int : ℤ → Bool
is_int (pos n) = nat_lt n (2 ^ 31)
is_int (negsuc n) = nat_lt n (2 ^ 31)

abbrev pub capability_of_name : List ℕ → Option Capability
capability_of_name name = find (λ c. bytes_eq name (capability_name c)) all_capabilities

-- ---- keys

-- a key of a table: whether it must stand, which values are right, and for a list of tables how many they may be
pub record Key : Type 0 where
  pub name : List ℕ
  pub must : Bool
  pub fits : Data → Bool
  pub most : Option ℕ

abbrev pub key : List ℕ → (Data → Bool) → Key
key name fits = record { name = name; must = true; fits = fits; most = None }

abbrev pub lackable : Key → Key
lackable k = record k { must = false }

-- a text, and one of these texts
abbrev pub is_text : Data → Bool
is_text d = is_some (as_str d)

abbrev pub is_one_of : List (List ℕ) → Data → Bool
is_one_of texts d = option_map_or (λ s. list_any (bytes_eq s) texts) (as_str d) false

-- a list of tables, and a key of one, of which there are so many at most
abbrev pub are_tables : Data → Bool
are_tables d = option_map_or (list_all is_table) (items_of d) false

-- at least one
abbrev pub are_some_tables : Data → Bool
are_some_tables d = are_tables d && option_map_or (λ ds. nat_le 1 (length ds)) (items_of d) false

abbrev pub tables : List ℕ → ℕ → Key
tables name most = record { name = name; must = false; fits = are_tables; most = Some most }

-- ---- arguments of calls, where a job has so many donors and a file these sets

abbrev pub is_donor : ℕ → Data → Bool
is_donor donors (integer (pos n)) = nat_le 1 n && nat_le n donors
is_donor donors _ = false

module _ (donors : ℕ) (sets : List (List ℕ)) where
  abbrev pub kind_fits : ArgumentKind → Data → Bool
  kind_fits Text d = is_text d
  kind_fits SetName d = is_one_of sets d
  kind_fits Truth (boolean b) = true
  kind_fits Whole (integer z) = is_whole z
  kind_fits Signed (integer z) = true
  kind_fits EventGiven (string name) = is_some (event_of_name name)
  kind_fits EventGiven (integer z) = is_whole z
  kind_fits CapabilityName (string name) = is_some (capability_of_name name)
  kind_fits DonorNumber d = is_donor donors d
  kind_fits kind d = false

  abbrev pub argument_fits : Argument → Data → Bool
  argument_fits a d = if a.is_list then option_map_or (list_all (kind_fits a.kind)) (items_of d) false else kind_fits a.kind d

  abbrev pub key_of : Argument → Key
  key_of a = record { name = a.name; must = not a.may_lack; fits = argument_fits a; most = None }

-- ---- the top table

-- a letter, a digit, `-` or `_`, in ASCII
abbrev pub is_name_byte : ℕ → Bool
is_name_byte b =
    (nat_le 0x61 b && nat_le b 0x7a) || (nat_le 0x41 b && nat_le b 0x5a) || (nat_le 0x30 b && nat_le b 0x39) || b == 0x2d || b == 0x5f

abbrev pub is_agent_name : List ℕ → Bool
is_agent_name name = nat_le 1 (length name) && nat_le (length name) 40 && list_all is_name_byte name

abbrev pub top_keys : List Key
top_keys =
    key (codes "name") (λ d. option_map_or is_agent_name (as_str d) false)
    ∷ key (codes "kind") (is_one_of (codes "native" ∷ codes "java" ∷ []))
    ∷ tables (codes "set") 64
    ∷ tables (codes "rule") 256
    ∷ tables (codes "load") 64
    ∷ tables (codes "script") 1024
    ∷ tables (codes "on") 64
    ∷ []

-- ---- a set of rules, whose name none of these sets before it has

abbrev pub set_keys : List (List ℕ) → List Key
set_keys earlier = key (codes "name") (λ d. is_text d && not (is_one_of earlier d)) ∷ []

-- ---- rules

pub data RuleKind : Type 0 where
  File : RuleKind
  Body : RuleKind
  Add : RuleKind
  Entry : RuleKind
  Redirect : RuleKind
  Constant : RuleKind

abbrev pub rule_name : RuleKind → List ℕ
rule_name File = codes "file"
rule_name Body = codes "body"
rule_name Add = codes "add"
rule_name Entry = codes "entry"
rule_name Redirect = codes "redirect"
rule_name Constant = codes "constant"

abbrev pub all_rules : List RuleKind
all_rules = File ∷ Body ∷ Add ∷ Entry ∷ Redirect ∷ Constant ∷ []

-- the kind that a table names, if it names one
abbrev pub rule_named : Members → Option RuleKind
rule_named ms = get_member (codes "kind") ms >>= as_str >>= λ name. find (λ kind. bytes_eq name (rule_name kind)) all_rules

abbrev pub text_key : List ℕ → Key
text_key name = key name is_text

abbrev pub int_key : List ℕ → Key
int_key name = key name (λ d. option_map_or is_int (as_integer d) false)

abbrev pub method_keys : List Key
method_keys = text_key (codes "method") ∷ text_key (codes "desc") ∷ []

abbrev pub to_keys : List Key
to_keys = text_key (codes "to_class") ∷ text_key (codes "to_method") ∷ []

-- the keys that a kind has besides
abbrev pub own_rule_keys : ℕ → RuleKind → List Key
own_rule_keys donors File = key (codes "donor") (is_donor donors) ∷ []
own_rule_keys donors Body = method_keys ++ key (codes "donor") (is_donor donors) ∷ []
own_rule_keys donors Add = method_keys ++ key (codes "donor") (is_donor donors) ∷ []
own_rule_keys donors Entry = method_keys ++ to_keys
own_rule_keys donors Redirect =
    text_key (codes "from_class") ∷ text_key (codes "from_method") ∷ text_key (codes "desc") ∷ to_keys
own_rule_keys donors Constant = method_keys ++ int_key (codes "from") ∷ int_key (codes "to") ∷ []

abbrev pub rule_kind_key : Key
rule_kind_key = key (codes "kind") (is_one_of (map rule_name all_rules))

-- the keys that every rule has, where a file has these sets
abbrev pub rule_keys : List (List ℕ) → List Key
rule_keys sets = key (codes "set") (is_one_of sets) ∷ rule_kind_key ∷ text_key (codes "class") ∷ []

-- ---- tables of calls

-- the call that a table names, if it names one
abbrev pub call_named : Members → Option CallKind
call_named ms = get_member (codes "call") ms >>= as_str >>= call_of_name

abbrev pub call_key : Key
call_key = key (codes "call") (λ d. is_some (as_str d >>= call_of_name))

-- how many lines the log has at least before a call of a script is made
abbrev pub at_key : Key
at_key = lackable (key (codes "at") (λ d. option_map_or is_whole (as_integer d) false))

-- a call whose argument has that name has no such key
abbrev pub has_place : CallKind → Bool
has_place call = list_any (λ a. bytes_eq a.name (codes "at")) (arguments_of call)

abbrev pub script_keys : CallKind → List Key
script_keys call = if has_place call then [] else at_key ∷ []

-- ---- tables of callbacks

abbrev pub callback_keys : List Key
callback_keys =
    key (codes "event") (λ d. is_some (as_str d >>= event_of_name))
    ∷ record { name = codes "calls"; must = true; fits = are_some_tables; most = Some 16 }
    ∷ lackable (text_key (codes "class"))
    ∷ lackable (key (codes "thread") (λ d. option_map_or is_whole (as_integer d) false))
    ∷ []
