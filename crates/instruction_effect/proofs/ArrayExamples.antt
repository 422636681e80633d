-- Division and arrays, computed.
use Rattle.std.proofs.Common.{◌≡◌, ℕ, pos, negsuc, List, [], ◌∷◌, ◌++◌, None, refl}
use Rattle.std.specs.Prelude.{codes}
use Rattle.std.specs.Int.{int_wrap}
use Rattle.ti_ids.specs.declared.value.Value.{Value}
use Rattle.ti_ids.specs.declared.value.Value.TheVariants.{Int, Long, Ref}
use Rattle.jv_names.specs.Names.{Name}
use Rattle.jv_names.specs.DescriptorReading.{class_end, dimensions, split_class, split_dimensions, read_class, read_element, read_type}
use Rattle.jv_names.specs.DescriptorFlaws.{read_field}
use Rattle.class_code.specs.declared.instr.Arithmetic.TheVariants as arithmetic
use Rattle.class_code.specs.declared.instr.Width.TheVariants as width
use Rattle.class_code.specs.declared.instr.Simple.{Simple}
use Rattle.class_code.specs.declared.instr.Simple.TheVariants as simple
use Rattle.class_code.specs.declared.instr.Element.TheVariants as of
use Rattle.class_code.specs.declared.instr.Instr.TheVariants as instr
use Rattle.class_tree.specs.declared.pool.Const.{Const}
use Rattle.class_tree.specs.declared.pool.Const.TheVariants as const
use Rattle.java_heap.specs.declared.object.Object.{Object}
use Rattle.java_heap.specs.declared.object.Content.TheVariants.{Elements}
use Rattle.java_heap.specs.Objects.{fresh}
use Rattle.link_versions.specs.declared.class.Element.{Element}
use Rattle.link_versions.specs.declared.class.Element.TheVariants as element
use Rattle.ti_ids.specs.declared.state.InitState.TheVariants as states
use Rattle.link_versions.specs.Classes.{Class, OfArray}
use Rattle.link_versions.specs.Subtypes.{type_of}
use Rattle.machine_state.specs.Core.{Core, Thread, Pin}
use Rattle.machine_state.specs.Acts.{Act, Changes, Makes, PutsElement, AddsClass}
use Rattle.instruction_effect.specs.Outcomes.{Site, Outcome, Throws, Fills}
use Rattle.instruction_effect.specs.Division.{division_outcome}
use Rattle.instruction_effect.specs.Arrays.{array_outcome}
use Rattle.instruction_effect.proofs.ExampleSites as sites
use Rattle.instruction_effect.proofs.ExampleSites.{reference}

abbrev vectors_of : Name → Element → Class
vectors_of name e = record { name = name; parent = None; interfaces = []; kind = OfArray 1 e; state = states.Initialized }

module _ (core : Core) (thread : Thread) (pin : Pin) where
  abbrev at : ℕ → List Object → List Class → List Const → List Value → Site
  at = sites.at core thread pin

  abbrev leaves : List Act → List Value → Outcome
  leaves = sites.leaves core thread pin

  -- ---- division

  abbrev quotient : List Value → Outcome
  quotient entries = division_outcome (at 64 [] [] [] entries) (instr.Simple (simple.Arithmetic arithmetic.Div width.Int))

  -- -7 by 2
  quotient-rounds_to_zero : quotient (Int (pos 2) ∷ Int (negsuc 6) ∷ []) ≡ leaves [] (Int (negsuc 2) ∷ [])
  unfolding int_wrap
  quotient-rounds_to_zero = refl

  quotient-by_zero : quotient (Int (pos 0) ∷ Int (pos 1) ∷ []) ≡ Throws [] (codes "java/lang/ArithmeticException")
  quotient-by_zero = refl

  -- a long divided by an int
  quotient-misfit : quotient (Int (pos 0) ∷ Long (pos 1) ∷ []) ≡ Throws [] (codes "java/lang/InternalError")
  quotient-misfit = refl

  -- ---- arrays

  abbrev multi : ℕ → List Value → Outcome
  multi limit entries = array_outcome (at limit [] [] (const.Class 2 ∷ const.Utf8 (codes "[[I") ∷ []) entries) (instr.MultiNewArray 1 2)

  -- the acts that make an array of two arrays of three ints: 4 words, and 5 for each of the two
  abbrev outer_class : Act
  outer_class = Changes (AddsClass (codes "[[I") states.Initialized)

  abbrev inner_class : Act
  inner_class = Changes (AddsClass (codes "[I") states.Initialized)

  abbrev outer : Act
  outer = Changes (Makes (fresh (record { 0 = 1 }) (Elements (Ref None ∷ Ref None ∷ []))))

  abbrev inner : Act
  inner = Changes (Makes (fresh (record { 0 = 2 }) (Elements (Int (pos 0) ∷ Int (pos 0) ∷ Int (pos 0) ∷ []))))

  abbrev holds : ℕ → ℕ → Act
  holds place n = Changes (PutsElement (record { 0 = 1 }) place (reference n))

  multi-two_by_three : multi 14 (Int (pos 3) ∷ Int (pos 2) ∷ [])
      ≡ leaves (outer_class ∷ outer ∷ inner_class ∷ inner ∷ holds 0 2 ∷ inner ∷ holds 1 3 ∷ []) (reference 1 ∷ [])
  unfolding class_end dimensions split_class split_dimensions read_class read_element read_type read_field type_of
  multi-two_by_three = refl

  multi-full : multi 13 (Int (pos 3) ∷ Int (pos 2) ∷ []) ≡ Fills (outer_class ∷ outer ∷ inner_class ∷ inner ∷ holds 0 2 ∷ [])
  unfolding class_end dimensions split_class split_dimensions read_class read_element read_type read_field type_of
  multi-full = refl

  multi-none : multi 13 (Int (pos 3) ∷ Int (pos 0) ∷ [])
      ≡ leaves (outer_class ∷ Changes (Makes (fresh (record { 0 = 1 }) (Elements []))) ∷ []) (reference 1 ∷ [])
  unfolding class_end dimensions split_class split_dimensions read_class read_element read_type read_field type_of
  multi-none = refl

  multi-negative : multi 14 (Int (negsuc 0) ∷ Int (pos 0) ∷ []) ≡ Throws (outer_class ∷ []) (codes "java/lang/NegativeArraySizeException")
  unfolding class_end dimensions split_class split_dimensions read_class read_element read_type read_field type_of
  multi-negative = refl

  multi-misfit : multi 14 (Long (pos 0) ∷ Int (negsuc 0) ∷ []) ≡ Throws [] (codes "java/lang/InternalError")
  unfolding class_end dimensions split_class split_dimensions read_class read_element read_type read_field type_of
  multi-misfit = refl

  -- two by two by one, where the class of the innermost is there: 4 words, 4 for each of the two, and 3 for each of their two
  abbrev cube : ℕ → List Value → Outcome
  cube limit entries =
      array_outcome (at limit [] (vectors_of (codes "[I") element.Int ∷ []) (const.Class 2 ∷ const.Utf8 (codes "[[[I") ∷ []) entries)
      (instr.MultiNewArray 1 3)

  abbrev makes : ℕ → List Value → Act
  makes n elements = Changes (Makes (fresh (record { 0 = n }) (Elements elements)))

  abbrev sets : ℕ → ℕ → ℕ → Act
  sets array place n = Changes (PutsElement (record { 0 = array }) place (reference n))

  -- what is done before the last is made
  abbrev most : List Act
  most =
      Changes (AddsClass (codes "[[[I") states.Initialized) ∷ makes 2 (Ref None ∷ Ref None ∷ [])
      ∷ Changes (AddsClass (codes "[[I") states.Initialized) ∷ makes 3 (Ref None ∷ Ref None ∷ []) ∷ makes 1 (Int (pos 0) ∷ []) ∷ sets 2 0 3
      ∷ makes 1 (Int (pos 0) ∷ []) ∷ sets 2 1 4 ∷ sets 1 0 2 ∷ makes 3 (Ref None ∷ Ref None ∷ []) ∷ makes 1 (Int (pos 0) ∷ []) ∷ sets 5 0 6 ∷ []

  cube-full_amid_inner : cube 23 (Int (pos 1) ∷ Int (pos 2) ∷ Int (pos 2) ∷ []) ≡ Fills most
  unfolding class_end dimensions split_class split_dimensions read_class read_element read_type read_field type_of
  cube-full_amid_inner = refl

  cube-just_room : cube 24 (Int (pos 1) ∷ Int (pos 2) ∷ Int (pos 2) ∷ [])
      ≡ leaves (most ++ makes 1 (Int (pos 0) ∷ []) ∷ sets 5 1 7 ∷ sets 1 1 5 ∷ []) (reference 1 ∷ [])
  unfolding class_end dimensions split_class split_dimensions read_class read_element read_type read_field type_of
  cube-just_room = refl

  -- an instruction in the sight of an array of three elements of one kind, the first of which is this
  abbrev over : Element → Value → Simple → List Value → Outcome
  over e first simple entries =
      array_outcome
      (at 64 (fresh (record { 0 = 1 }) (Elements (first ∷ first ∷ first ∷ [])) ∷ []) (vectors_of (codes "[?") e ∷ []) [] entries)
      (instr.Simple simple)

  abbrev put : ℕ → Value → List Act
  put place v = Changes (PutsElement (record { 0 = 1 }) place v) ∷ []

  -- 3 in an array of boolean, 200 in one of byte, 65537 in one of char, 32768 in one of short
  store-boolean : over element.Boolean (Int (pos 0)) (simple.ArrayStore of.Byte) (Int (pos 3) ∷ Int (pos 2) ∷ reference 1 ∷ [])
      ≡ leaves (put 2 (Int (pos 1))) []
  unfolding type_of int_wrap
  store-boolean = refl

  store-byte : over element.Byte (Int (pos 0)) (simple.ArrayStore of.Byte) (Int (pos 200) ∷ Int (pos 1) ∷ reference 1 ∷ [])
      ≡ leaves (put 1 (Int (negsuc 55))) []
  unfolding type_of int_wrap
  store-byte = refl

  store-char : over element.Char (Int (pos 0)) (simple.ArrayStore of.Char) (Int (pos 65537) ∷ Int (pos 0) ∷ reference 1 ∷ [])
      ≡ leaves (put 0 (Int (pos 1))) []
  unfolding type_of int_wrap
  store-char = refl

  store-short : over element.Short (Int (pos 0)) (simple.ArrayStore of.Short) (Int (pos 32768) ∷ Int (pos 0) ∷ reference 1 ∷ [])
      ≡ leaves (put 0 (Int (negsuc 32767))) []
  unfolding type_of int_wrap
  store-short = refl

  store-long : over element.Long (Long (pos 0)) (simple.ArrayStore of.Long) (Long (pos 5000000000) ∷ Int (pos 0) ∷ reference 1 ∷ [])
      ≡ leaves (put 0 (Long (pos 5000000000))) []
  unfolding type_of int_wrap
  store-long = refl

  load-byte : over element.Boolean (Int (pos 1)) (simple.ArrayLoad of.Byte) (Int (pos 2) ∷ reference 1 ∷ Int (pos 9) ∷ [])
      ≡ leaves [] (Int (pos 1) ∷ Int (pos 9) ∷ [])
  unfolding type_of
  load-byte = refl

  load-out_of_range : over element.Int (Int (pos 1)) (simple.ArrayLoad of.Int) (Int (pos 3) ∷ reference 1 ∷ [])
      ≡ Throws [] (codes "java/lang/ArrayIndexOutOfBoundsException")
  unfolding type_of
  load-out_of_range = refl

  load-below_range : over element.Int (Int (pos 1)) (simple.ArrayLoad of.Int) (Int (negsuc 0) ∷ reference 1 ∷ [])
      ≡ Throws [] (codes "java/lang/ArrayIndexOutOfBoundsException")
  unfolding type_of
  load-below_range = refl

  load-null : over element.Int (Int (pos 1)) (simple.ArrayLoad of.Int) (Int (pos 3) ∷ Ref None ∷ [])
      ≡ Throws [] (codes "java/lang/NullPointerException")
  unfolding type_of
  load-null = refl

  load-of_another_kind : over element.Byte (Int (pos 1)) (simple.ArrayLoad of.Int) (Int (pos 9) ∷ reference 1 ∷ [])
      ≡ Throws [] (codes "java/lang/IncompatibleClassChangeError")
  unfolding type_of
  load-of_another_kind = refl

  load-misfit : over element.Int (Int (pos 1)) (simple.ArrayLoad of.Int) (Int (pos 3) ∷ []) ≡ Throws [] (codes "java/lang/InternalError")
  unfolding type_of
  load-misfit = refl

  length : over element.Int (Int (pos 1)) simple.ArrayLength (reference 1 ∷ []) ≡ leaves [] (Int (pos 3) ∷ [])
  length = refl
