-- What a code must be beside its list of instructions: JVM specification 4.7.3 and 4.9.1.
use Rattle.std.specs.Prelude.{ℕ, pos, Bool, true, false, ◌&&◌, ◌||◌, not, ◌==◌, nat_lt, List, length, Option, Some, None, codes, bytes_eq}
use Rattle.std.specs.List.{list_all}
use Rattle.jv_names.specs.Names.{Name}
use Rattle.class_code.specs.declared.instr.Instr.{Instr}
use Rattle.class_code.specs.declared.pool.PoolUse.{PoolUse}
use Rattle.class_code.specs.declared.pool.PoolUse.TheVariants as use_of
use Rattle.class_code.specs.Listing.{begins}
use Rattle.class_code.specs.CodeReading.{list_of}
use Rattle.class_code.specs.PoolUses.{pool_use}
use Rattle.class_tree.specs.declared.pool.Const.{Const}
use Rattle.class_tree.specs.declared.pool.Const.TheVariants as const
use Rattle.class_tree.specs.declared.body.Handler.{Handler}
use Rattle.class_tree.specs.declared.body.Code.{Code}
use Rattle.class_tree.specs.declared.body.CodeAttr.{CodeAttr}
use Rattle.class_tree.specs.declared.body.CodeAttr.TheVariants as code_attr
use Rattle.class_tree.specs.Ranges.{is_u2, is_u4, are_counted, are_bytes}
use Rattle.class_tree.specs.Spelling.{counted, frame_bytes}
use Rattle.class_tree.specs.Tree.{entry_at, names_class}
use Rattle.class_tree.specs.PoolRules.{has_text}
use Rattle.class_tree.specs.FrameRules.{is_frame}

-- an entry that an instruction may use so; an interface's method is called by `invokespecial` and `invokestatic` from
-- version 52 on
abbrev pub meets : ℕ → PoolUse → Option Const → Bool
meets major use_of.Loadable (Some (const.Integer n)) = true
meets major use_of.Loadable (Some (const.Text text)) = true
meets major use_of.Loadable (Some (const.Class name)) = true
meets major use_of.Long (Some (const.Long n)) = true
meets major use_of.Field (Some (const.Field class pair)) = true
meets major use_of.Method (Some (const.Method class pair)) = true
meets major use_of.MethodOrInterfaceMethod (Some (const.Method class pair)) = true
meets major use_of.MethodOrInterfaceMethod (Some (const.InterfaceMethod class pair)) = major == 52
meets major use_of.InterfaceMethod (Some (const.InterfaceMethod class pair)) = true
meets major use_of.Class (Some (const.Class name)) = true
meets major need entry = false

abbrev pub is_met : ℕ → List Const → Option (ℕ × PoolUse) → Bool
is_met major pool None = true
is_met major pool (Some x) = meets major x.1 (entry_at pool x.0)

-- a place at which an instruction begins
abbrev pub is_place : List (ℕ × Instr) → ℕ → Bool
is_place list at = is_u2 at && begins list (pos at)

-- where a range ends that begins at `start`: at an instruction or at the code's end, and behind its start
abbrev pub is_range_end : List (ℕ × Instr) → ℕ → ℕ → ℕ → Bool
is_range_end list len start end = is_u2 end && (begins list (pos end) || end == len) && nat_lt start end

abbrev pub is_catch_type : List Const → ℕ → Bool
is_catch_type pool index = index == 0 || names_class pool index

abbrev pub is_handler : List Const → ℕ → List (ℕ × Instr) → Handler → Bool
is_handler pool len list h = is_place list h.start && is_range_end list len h.start h.end && is_place list h.target && is_catch_type pool h.catch_type

-- ---- attributes and the whole

-- four bytes count the length of an attribute's content
abbrev pub is_content : List ℕ → Bool
is_content bytes = is_u4 (length bytes)

-- an attribute is kept as bytes where its name isn't one that is read
abbrev pub is_raw : List Const → (Name → Bool) → ℕ → List ℕ → Bool
is_raw pool reads name bytes = has_text pool name (λ text. not (reads text)) && are_bytes bytes && is_content bytes

abbrev pub is_stack_map : Name → Bool
is_stack_map name = bytes_eq name (codes "StackMapTable")

abbrev pub is_code_attr : List Const → CodeAttr → Bool
is_code_attr pool (code_attr.Raw name bytes) = is_raw pool is_stack_map name bytes
is_code_attr pool (code_attr.Frames name entries) = has_text pool name is_stack_map && are_counted (is_frame pool) entries && is_content (counted frame_bytes entries)

-- section 4.7.3: what is as it must be once a code's instructions are known
abbrev pub is_listed : ℕ → List Const → Code → Option (List (ℕ × Instr)) → Bool
is_listed major pool code None = false
is_listed major pool code (Some list) = list_all (λ p. is_met major pool (pool_use p.1)) list && are_counted (is_handler pool (length code.bytes) list) code.handlers

-- a code has from 1 to 65535 bytes
abbrev pub is_code_length : ℕ → Bool
is_code_length len = nat_lt 0 len && is_u2 len

abbrev pub is_code : ℕ → List Const → Code → Bool
is_code major pool code =
    is_u2 code.max_stack && is_u2 code.max_locals && is_code_length (length code.bytes) && are_bytes code.bytes
    && is_listed major pool code (list_of code.bytes) && are_counted (is_code_attr pool) code.attrs
