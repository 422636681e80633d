-- Objects, arrays of them, constants and monitors, computed.
use Rattle.std.proofs.Common.{◌≡◌, ℕ, pos, List, [], ◌∷◌, Some, None, refl}
use Rattle.std.specs.Prelude.{codes}
use Rattle.ti_ids.specs.declared.value.Value.{Value}
use Rattle.ti_ids.specs.declared.value.Value.TheVariants.{Int, Long, Ref}
use Rattle.jv_names.specs.DescriptorReading.{class_end, dimensions, split_class, split_dimensions, read_class, read_element, read_type}
use Rattle.jv_names.specs.DescriptorFlaws.{read_field}
use Rattle.class_code.specs.declared.instr.PoolOp.TheVariants as pool_op
use Rattle.class_code.specs.declared.instr.Simple.TheVariants as simple
use Rattle.class_code.specs.declared.instr.Element.TheVariants as of
use Rattle.class_code.specs.declared.instr.Instr.{Instr}
use Rattle.class_code.specs.declared.instr.Instr.TheVariants as instr
use Rattle.class_tree.specs.declared.pool.Const.{Const}
use Rattle.java_heap.specs.declared.object.Object.{Object}
use Rattle.java_heap.specs.declared.object.Content.TheVariants.{Fields, Elements, Literal, ClassObject}
use Rattle.java_heap.specs.Objects.{fresh}
use Rattle.link_versions.specs.declared.class.Element.TheVariants as element
use Rattle.ti_ids.specs.declared.state.InitState.TheVariants as states
use Rattle.link_versions.specs.Classes.{Class, OfArray, first_version}
use Rattle.link_versions.specs.Orders.{lookup_order, superclasses}
use Rattle.link_versions.specs.Subtypes.{type_of, is_element_below, is_array_below, is_type_below, is_subclass}
use Rattle.machine_state.specs.Core.{Core, Thread, Pin}
use Rattle.machine_state.specs.Trace.{VMObjectAlloc}
use Rattle.machine_state.specs.Acts.{Act, Changes, Makes, PutsElement, AddsClass, raises}
use Rattle.instruction_effect.specs.Outcomes.{Site, Outcome, Throws, ThrowsObject, Fills, NeedsLoad, NeedsLink, NeedsInit}
use Rattle.instruction_effect.specs.Objects.{object_outcome}
use Rattle.instruction_effect.specs.Arrays.{array_outcome}
use Rattle.instruction_effect.specs.Constants.{constant_outcome}
use Rattle.instruction_effect.proofs.ExampleSites as sites
use Rattle.instruction_effect.proofs.ExampleSites.{reference, descriptors, subtypes}
use Rattle.instruction_effect.proofs.FieldExamples.{pool, file, of_file, classes, ready}

-- the classes of the fields' examples, and class 4, of the arrays of A
abbrev arrays_of_a : List Class
arrays_of_a =
    record {
      name = codes "[LA;";
      parent = Some (record { 0 = 1 });
      interfaces = [];
      kind = OfArray 1 (element.Class (record { 0 = 2 }));
      state = states.Initialized;
    }
    ∷ ready

-- what a B holds that is new
abbrev b_fields : List Value
b_fields = Int (pos 0) ∷ Long (pos 0) ∷ Ref None ∷ []

module _ (core : Core) (thread : Thread) (pin : Pin) where
  abbrev at : ℕ → List Object → List Class → List Const → List Value → Site
  at = sites.at core thread pin

  abbrev leaves : List Act → List Value → Outcome
  leaves = sites.leaves core thread pin

  -- object 1 is a B, object 2 an array of one A: 8 words
  abbrev objects : List Object
  objects = fresh (record { 0 = 3 }) (Fields b_fields) ∷ fresh (record { 0 = 4 }) (Elements (Ref None ∷ [])) ∷ []

  abbrev over : ℕ → List Class → Instr → List Value → Outcome
  over limit cs i entries = object_outcome (at limit objects cs pool entries) i

  -- ---- new

  new-load : over 64 ready (instr.Pool pool_op.New 4) [] ≡ NeedsLoad (codes "C")
  unfolding class_end dimensions split_class split_dimensions read_class read_element read_type read_field
  new-load = refl

  new-link : over 64 (classes states.Loaded states.Loaded) (instr.Pool pool_op.New 3) [] ≡ NeedsLink (record { 0 = 3 })
  new-link = refl

  -- an abstract class is initialized first
  new-init : over 64 (classes states.Linked states.Loaded) (instr.Pool pool_op.New 2) [] ≡ NeedsInit (record { 0 = 2 })
  new-init = refl

  new-abstract : over 64 ready (instr.Pool pool_op.New 2) [] ≡ Throws [] (codes "java/lang/InstantiationError")
  unfolding first_version
  new-abstract = refl

  new-made : over 13 ready (instr.Pool pool_op.New 3) []
      ≡ leaves (Changes (Makes (fresh (record { 0 = 3 }) (Fields b_fields))) ∷ []) (reference 3 ∷ [])
  unfolding first_version superclasses
  new-made = refl

  new-full : over 12 ready (instr.Pool pool_op.New 3) [] ≡ Fills []
  unfolding first_version superclasses
  new-full = refl

  -- ---- checkcast and instanceof

  cast-null : over 64 ready (instr.Pool pool_op.CheckCast 4) (Ref None ∷ []) ≡ leaves [] (Ref None ∷ [])
  cast-null = refl

  cast-upwards : over 64 ready (instr.Pool pool_op.CheckCast 2) (reference 1 ∷ []) ≡ leaves [] (reference 1 ∷ [])
  unfolding type_of is_element_below is_type_below is_subclass lookup_order
  cast-upwards = refl

  -- an array of A to B, and to arrays of B, whose class is made
  cast-fails : over 64 arrays_of_a (instr.Pool pool_op.CheckCast 3) (reference 2 ∷ []) ≡ Throws [] (codes "java/lang/ClassCastException")
  unfolding type_of is_element_below is_array_below is_type_below is_subclass lookup_order
  cast-fails = refl

  cast-to_array : over 64 arrays_of_a (instr.Pool pool_op.CheckCast 26) (reference 2 ∷ [])
      ≡ Throws (Changes (AddsClass (codes "[LB;") states.Initialized) ∷ []) (codes "java/lang/ClassCastException")
  unfolding descriptors subtypes
  cast-to_array = refl

  test-null : over 64 ready (instr.Pool pool_op.InstanceOf 4) (Ref None ∷ []) ≡ leaves [] (Int (pos 0) ∷ [])
  test-null = refl

  test-array : over 64 arrays_of_a (instr.Pool pool_op.InstanceOf 1) (reference 2 ∷ []) ≡ leaves [] (Int (pos 1) ∷ [])
  unfolding type_of is_element_below is_array_below is_type_below is_subclass lookup_order
  test-array = refl

  test-misfit : over 64 ready (instr.Pool pool_op.InstanceOf 2) (Int (pos 0) ∷ []) ≡ Throws [] (codes "java/lang/InternalError")
  test-misfit = refl

  -- ---- athrow

  throw-null : over 64 ready (instr.Simple simple.Throw) (Ref None ∷ []) ≡ Throws [] (codes "java/lang/NullPointerException")
  throw-null = refl

  throw-no_throwable : over 64 ready (instr.Simple simple.Throw) (reference 1 ∷ []) ≡ Throws [] (codes "java/lang/IncompatibleClassChangeError")
  throw-no_throwable = refl

  throw-object : object_outcome (
      at 64 (fresh (record { 0 = 1 }) (Fields []) ∷ [])
      (of_file (codes "java/lang/Throwable") None states.Initialized (file 0x21 1 0 []) ∷ []) pool (reference 1 ∷ [])
      ) (instr.Simple simple.Throw)
      ≡ ThrowsObject (record { 0 = 1 })
  unfolding type_of is_element_below is_type_below is_subclass lookup_order
  throw-object = refl

  -- ---- arrays of objects

  abbrev store : List Value → Outcome
  store entries = array_outcome (at 64 objects arrays_of_a pool entries) (instr.Simple (simple.ArrayStore of.Reference))

  store-subclass : store (reference 1 ∷ Int (pos 0) ∷ reference 2 ∷ []) ≡ leaves (Changes (PutsElement (record { 0 = 2 }) 0 (reference 1)) ∷ []) []
  unfolding type_of is_element_below is_type_below lookup_order
  store-subclass = refl

  store-wrong : store (reference 2 ∷ Int (pos 0) ∷ reference 2 ∷ []) ≡ Throws [] (codes "java/lang/ArrayStoreException")
  unfolding type_of is_element_below is_array_below is_type_below lookup_order
  store-wrong = refl

  -- the index comes before that
  store-out_of_range : store (reference 2 ∷ Int (pos 1) ∷ reference 2 ∷ []) ≡ Throws [] (codes "java/lang/ArrayIndexOutOfBoundsException")
  unfolding type_of
  store-out_of_range = refl

  make-of_b : array_outcome (at 64 objects arrays_of_a pool (Int (pos 2) ∷ [])) (instr.Pool pool_op.NewReferenceArray 3)
      ≡ leaves
      (Changes (AddsClass (codes "[LB;") states.Initialized)
      ∷ Changes (Makes (fresh (record { 0 = 5 }) (Elements (Ref None ∷ Ref None ∷ [])))) ∷ [])
      (reference 3 ∷ [])
  unfolding class_end dimensions split_class split_dimensions read_class read_element read_type read_field
  make-of_b = refl

  make-of_c : array_outcome (at 64 objects arrays_of_a pool (Int (pos 2) ∷ [])) (instr.Pool pool_op.NewReferenceArray 4) ≡ NeedsLoad (codes "C")
  unfolding class_end dimensions split_class split_dimensions read_class read_element read_type read_field
  make-of_c = refl

  -- ---- constants

  abbrev literal : Object
  literal = fresh (record { 0 = 4 }) (Literal (codes "hi"))

  load-new : constant_outcome (at 64 objects ready pool []) (instr.LoadConst 28)
      ≡ leaves (Changes (Makes literal) ∷ raises (VMObjectAlloc (record { 0 = 1 }) (record { 0 = 3 }) (codes "java/lang/String")) ∷ [])
      (reference 3 ∷ [])
  load-new = refl

  load-same : constant_outcome (at 64 (literal ∷ []) ready pool []) (instr.LoadConst 28) ≡ leaves [] (reference 1 ∷ [])
  load-same = refl

  load-class : constant_outcome (at 64 objects ready pool []) (instr.Pool pool_op.LoadConstWide 3)
      ≡ leaves (
      Changes (Makes (fresh (record { 0 = 6 }) (ClassObject (record { 0 = 3 }))))
      ∷ raises (VMObjectAlloc (record { 0 = 1 }) (record { 0 = 3 }) (codes "java/lang/Class")) ∷ []
      ) (reference 3 ∷ [])
  load-class = refl
