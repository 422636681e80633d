-- The code of a base method that isn't abstract. It is never run.
use Rattle.std.specs.Prelude.{ℕ, ◌+◌, Bool, true, false, ◌&&◌, ◌==◌, if◌then◌else◌, [], ◌∷◌, sum_by, Some, None}
use Rattle.jv_names.specs.Names.{Name}
use Rattle.jv_names.specs.declared.descriptor.ElementType.TheVariants.{Long}
use Rattle.jv_names.specs.Descriptors.{AnyType, AnyElement, Kept, Double}
use Rattle.jv_names.specs.DescriptorFlaws.{read_method}
use Rattle.class_tree.specs.declared.access.Flag.TheVariants.{Static}
use Rattle.class_tree.specs.declared.body.Code.{Code}
use Rattle.class_tree.specs.Flags.{has_flag}
use Rattle.base_set.specs.BaseSet.{BaseMethod}

abbrev pub is_wide : AnyElement → Bool
is_wide (Kept Long) = true
is_wide Double = true
is_wide element = false

-- section 2.6.1: a long or a double takes two local variables, and any other value, as an array of longs, takes one
abbrev pub words_of : AnyType → ℕ
words_of t = if t.dimensions == 0 && is_wide t.element then 2 else 1

-- what the parameters of a method of this descriptor take
abbrev pub parameter_words : Name → ℕ
parameter_words desc = elim (read_method desc) [ None ↦ 0 | Some m ↦ sum_by words_of m.parameters ]

-- section 2.6.1: with `this`, which a static method has not
abbrev pub locals_of : BaseMethod → ℕ
locals_of m = if has_flag m.flags Static then parameter_words m.desc else 1 + parameter_words m.desc

-- `aconst_null` and `athrow`: 6.5
abbrev pub code_of_base : BaseMethod → Code
code_of_base m = record { max_stack = 1; max_locals = locals_of m; bytes = 0x01 ∷ 0xbf ∷ []; handlers = []; attrs = [] }
