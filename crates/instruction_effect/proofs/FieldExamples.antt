-- Fields and objects, computed.
use Rattle.std.proofs.Common.{◌≡◌, ℕ, pos, List, [], ◌∷◌, Option, Some, None, refl}
use Rattle.std.specs.Prelude.{codes}
use Rattle.ti_ids.specs.declared.number.ClassNo.{ClassNo}
use Rattle.ti_ids.specs.declared.number.FieldNo.{FieldNo}
use Rattle.ti_ids.specs.declared.value.Value.{Value}
use Rattle.ti_ids.specs.declared.value.Value.TheVariants.{Int, Long, Ref}
use Rattle.jv_names.specs.Names.{Name}
use Rattle.jv_names.specs.DescriptorReading.{class_end, dimensions, split_class, split_dimensions, read_class, read_element, read_type}
use Rattle.jv_names.specs.DescriptorFlaws.{read_field}
use Rattle.class_code.specs.declared.instr.PoolOp.{PoolOp}
use Rattle.class_code.specs.declared.instr.PoolOp.TheVariants as pool_op
use Rattle.class_code.specs.declared.instr.Instr.TheVariants as instr
use Rattle.class_tree.specs.declared.members.Member.{Member}
use Rattle.class_tree.specs.declared.pool.Const.{Const}
use Rattle.class_tree.specs.declared.pool.Const.TheVariants as const
use Rattle.class_tree.specs.Trees.{Tree}
use Rattle.java_heap.specs.declared.object.Object.{Object}
use Rattle.java_heap.specs.declared.object.Content.TheVariants.{Fields, Elements}
use Rattle.java_heap.specs.Objects.{fresh}
use Rattle.ti_ids.specs.declared.state.InitState.{InitState}
use Rattle.ti_ids.specs.declared.state.InitState.TheVariants as states
use Rattle.link_versions.specs.Classes.{Class, OfFile, first_version}
use Rattle.link_versions.specs.Members.{declared_field}
use Rattle.link_versions.specs.Orders.{lookup_order, superclasses}
use Rattle.link_versions.specs.Resolution.{resolved_field}
use Rattle.machine_state.specs.Core.{Core, Thread, Pin}
use Rattle.machine_state.specs.Acts.{Act, Changes, PutsField, PutsStatic}
use Rattle.instruction_effect.specs.Outcomes.{Site, Outcome, Throws, NeedsLoad, NeedsLink, NeedsInit}
use Rattle.instruction_effect.specs.Fields.{instance_fields, fresh_fields, field_outcome, accessed_field, modified_field}
use Rattle.instruction_effect.proofs.ExampleSites as sites
use Rattle.instruction_effect.proofs.ExampleSites.{reference}

-- ---- classes

-- The constants of every file here: 1 to 4 are the classes Object, A, B and C; 20 to 25 are fields; 26 is an array class, 28 a String.
abbrev pub pool : List Const
pool =
    const.Class 5 ∷ const.Class 6 ∷ const.Class 7 ∷ const.Class 8
    ∷ const.Utf8 (codes "java/lang/Object") ∷ const.Utf8 (codes "A") ∷ const.Utf8 (codes "B") ∷ const.Utf8 (codes "C")
    ∷ const.Utf8 (codes "s") ∷ const.Utf8 (codes "x") ∷ const.Utf8 (codes "y") ∷ const.Utf8 (codes "z")
    ∷ const.Utf8 (codes "I") ∷ const.Utf8 (codes "J") ∷ const.Utf8 (codes "LA;")
    ∷ const.NameType 9 13 ∷ const.NameType 10 13 ∷ const.NameType 11 14 ∷ const.NameType 12 15
    ∷ const.Field 3 16 ∷ const.Field 3 17 ∷ const.Field 3 18 ∷ const.Field 3 19 ∷ const.Field 4 17 ∷ const.Field 1 17
    ∷ const.Class 27 ∷ const.Utf8 (codes "[LB;") ∷ const.Text 29 ∷ const.Utf8 (codes "hi") ∷ []

abbrev pub member : ℕ → ℕ → ℕ → Member
member flags name desc = record { flags = record { bits = flags }; name = name; desc = desc; attrs = [] }

abbrev pub file : ℕ → ℕ → ℕ → List Member → Tree
file flags this super fields = record {
  minor = 0;
  major = 52;
  pool = pool;
  flags = record { bits = flags };
  this_class = this;
  super_class = super;
  interfaces = [];
  fields = fields;
  methods = [];
  attrs = [];
}

abbrev pub of_file : Name → Option ClassNo → InitState → Tree → Class
of_file name parent state t = record { name = name; parent = parent; interfaces = []; kind = OfFile (t ∷ []); state = state }

-- Object; the abstract class A with `int x`, `static int s` and `long y`; and B, which extends it, with `A z`, in this state
abbrev pub classes : InitState → InitState → List Class
classes a b =
    of_file (codes "B") (Some (record { 0 = 2 })) b (file 0x21 3 2 (member 0 12 15 ∷ []))
    ∷ of_file (codes "A") (Some (record { 0 = 1 })) a (file 0x421 2 1 (member 0 10 13 ∷ member 8 9 13 ∷ member 0 11 14 ∷ []))
    ∷ of_file (codes "java/lang/Object") None states.Initialized (file 0x21 1 0 []) ∷ []

abbrev pub ready : List Class
ready = classes states.Initialized states.Initialized

abbrev field : ℕ → ℕ → FieldNo
field class place = record { class = record { 0 = class }; place = place }

-- those of the superclass first, and no static one
fields-of_b : instance_fields ready (record { 0 = 3 }) ≡ field 2 0 ∷ field 2 2 ∷ field 3 0 ∷ []
unfolding first_version superclasses
fields-of_b = refl

fresh-of_b : fresh_fields ready (record { 0 = 3 }) ≡ Int (pos 0) ∷ Long (pos 0) ∷ Ref None ∷ []
unfolding first_version superclasses
fresh-of_b = refl

module _ (core : Core) (thread : Thread) (pin : Pin) where
  abbrev at : ℕ → List Object → List Class → List Const → List Value → Site
  at = sites.at core thread pin

  abbrev leaves : List Act → List Value → Outcome
  leaves = sites.leaves core thread pin

  -- object 1 is a B, object 2 an array of ints
  abbrev objects : List Object
  objects = fresh (record { 0 = 3 }) (Fields (Int (pos 7) ∷ Long (pos 8) ∷ Ref None ∷ [])) ∷ fresh (record { 0 = 4 }) (Elements []) ∷ []

  abbrev over : List Class → PoolOp → ℕ → List Value → Outcome
  over cs op index entries = field_outcome (at 64 objects cs pool entries) (instr.Pool op index)

  -- `y` of A, named as B's
  get-long : over ready pool_op.GetField 22 (reference 1 ∷ []) ≡ leaves [] (Long (pos 8) ∷ [])
  unfolding first_version superclasses lookup_order declared_field resolved_field
  get-long = refl

  put-long : over ready pool_op.PutField 22 (Long (pos 3) ∷ reference 1 ∷ [])
      ≡ leaves (Changes (PutsField (record { 0 = 1 }) 1 (Long (pos 3))) ∷ []) []
  unfolding first_version superclasses lookup_order declared_field resolved_field
  put-long = refl

  put-misfit : over ready pool_op.PutField 22 (Int (pos 3) ∷ Ref None ∷ []) ≡ Throws [] (codes "java/lang/InternalError")
  unfolding first_version superclasses lookup_order declared_field resolved_field
  put-misfit = refl

  put-null : over ready pool_op.PutField 22 (Long (pos 3) ∷ Ref None ∷ []) ≡ Throws [] (codes "java/lang/NullPointerException")
  unfolding first_version superclasses lookup_order declared_field resolved_field
  put-null = refl

  -- an array has no `y`
  get-lacking : over ready pool_op.GetField 22 (reference 2 ∷ []) ≡ Throws [] (codes "java/lang/IncompatibleClassChangeError")
  unfolding first_version superclasses lookup_order declared_field resolved_field
  get-lacking = refl

  -- `s` is static, also where the receiver is null
  get-static_one : over ready pool_op.GetField 20 (Ref None ∷ []) ≡ Throws [] (codes "java/lang/IncompatibleClassChangeError")
  unfolding first_version superclasses lookup_order declared_field resolved_field
  get-static_one = refl

  get-no_field : over ready pool_op.GetField 25 (reference 1 ∷ []) ≡ Throws [] (codes "java/lang/NoSuchFieldError")
  unfolding first_version superclasses lookup_order declared_field resolved_field
  get-no_field = refl

  get-no_class : over ready pool_op.GetField 24 (Ref None ∷ []) ≡ NeedsLoad (codes "C")
  unfolding class_end dimensions split_class split_dimensions read_class read_element read_type read_field
  get-no_class = refl

  -- A declares `s`: it is linked and initialized, and B isn't
  static-link : over (classes states.Loaded states.Loaded) pool_op.GetStatic 20 [] ≡ NeedsLink (record { 0 = 2 })
  unfolding first_version superclasses lookup_order declared_field resolved_field
  static-link = refl

  static-init : over (classes states.Linked states.Loaded) pool_op.PutStatic 20 [] ≡ NeedsInit (record { 0 = 2 })
  unfolding first_version superclasses lookup_order declared_field resolved_field
  static-init = refl

  static-put : over (classes (states.InProgress (record { 0 = 1 })) states.Loaded) pool_op.PutStatic 20 (Int (pos 5) ∷ [])
      ≡ leaves (Changes (PutsStatic (field 2 1) (Int (pos 5))) ∷ []) []
  unfolding first_version superclasses lookup_order declared_field resolved_field
  static-put = refl

  -- five longs fill the operand stack
  static-no_room : over ready pool_op.GetStatic 20 (Long (pos 1) ∷ Long (pos 2) ∷ Long (pos 3) ∷ Long (pos 4) ∷ Long (pos 5) ∷ [])
      ≡ Throws [] (codes "java/lang/InternalError")
  unfolding first_version superclasses lookup_order declared_field resolved_field
  static-no_room = refl

  -- `x` isn't static
  static-instance_one : over ready pool_op.GetStatic 21 [] ≡ Throws [] (codes "java/lang/IncompatibleClassChangeError")
  unfolding first_version superclasses lookup_order declared_field resolved_field
  static-instance_one = refl

  -- by the class that declares it
  accessed-y : accessed_field (at 64 objects ready pool []) (instr.Pool pool_op.GetField 22)
      ≡ Some (record { class = codes "A"; name = codes "y"; desc = codes "J" })
  unfolding first_version lookup_order declared_field resolved_field
  accessed-y = refl

  accessed-by_a_store : accessed_field (at 64 objects ready pool []) (instr.Pool pool_op.PutField 22) ≡ None
  accessed-by_a_store = refl

  modified-not_there : modified_field (at 64 objects ready pool []) (instr.Pool pool_op.PutField 24) ≡ None
  modified-not_there = refl
