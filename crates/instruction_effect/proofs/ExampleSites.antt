-- Where instructions stand whose outcomes are computed: in a frame whose operand stack has room for ten words, of a thread in any state.
use Rattle.std.proofs.Common.{ℕ, List, [], ◌∷◌, ◌++◌, Some}
use Rattle.ti_ids.specs.declared.state.Announced.TheVariants.{No}
use Rattle.ti_ids.specs.declared.value.Value.{Value}
use Rattle.ti_ids.specs.declared.value.Value.TheVariants.{Ref}
use Rattle.class_tree.specs.declared.pool.Const.{Const}
use Rattle.java_heap.specs.declared.object.Object.{Object}
use Rattle.machine_state.specs.Core.{Core, Thread, MethodFrame, Pin}
use Rattle.machine_state.specs.Acts.{Act, Changes, SetsTop}
use Rattle.instruction_effect.specs.Outcomes.{Site, Outcome, Goes}
use Rattle.jv_names.specs.DescriptorReading.{class_end, dimensions, split_class, split_dimensions, read_class, read_element, read_type}
use Rattle.jv_names.specs.DescriptorFlaws.{read_field, read_method, read_result}
use Rattle.link_versions.specs.Classes.{Class, first_version, version_at, version_count, class_has}
use Rattle.link_versions.specs.Members.{declared_method, declared_virtual, method_at, method_name, method_desc, method_has}
use Rattle.link_versions.specs.Orders.{lookup_order, superclasses}
use Rattle.link_versions.specs.Subtypes.{type_of, is_element_below, is_array_below, is_type_below, is_subclass}
use Rattle.link_versions.specs.Resolution.{candidate, candidates, is_overridden, concrete_ones, selected_by, resolved_method, from_superclasses, from_superinterfaces, from_object, selected}

-- ---- what examples unfold: each of these names stands for the definitions on its line

-- descriptors are read
unfoldable pub descriptors : Unit {0}
unfolding read_field read_method read_type read_result read_element read_class split_class class_end split_dimensions dimensions
descriptors = tt

-- classes and their members
unfoldable pub members : Unit {0}
unfolding class_has first_version version_at version_count declared_method declared_virtual method_name method_desc method_has method_at
members = tt

-- methods are found
unfoldable pub resolution : Unit {0}
unfolding resolved_method from_superclasses from_superinterfaces from_object candidate candidates is_overridden concrete_ones
resolution = tt

-- methods are selected, and classes compared
unfoldable pub subtypes : Unit {0}
unfolding selected selected_by superclasses lookup_order type_of is_element_below is_array_below is_type_below is_subclass
subtypes = tt

-- ---- sites

abbrev pub reference : ℕ → Value
reference n = Ref (Some (record { 0 = n }))

module _ (core : Core) (thread : Thread) (pin : Pin) where
  abbrev pub frame : List Value → ℕ → MethodFrame
  frame entries pc = record {
    class = record { 0 = 1 };
    method = record { class = record { 0 = 1 }; place = 0 };
    pin = pin;
    pc = pc;
    locals = [];
    stack = record { entries = entries; room = 10 };
    announced = No;
  }

  -- in a heap of so many words with these objects
  abbrev pub at : ℕ → List Object → List Class → List Const → List Value → Site
  at limit objects classes pool entries = record {
    core = record core { heap = record { limit = limit; objects = objects } };
    classes = classes;
    t = record { 0 = 1 };
    thread = thread;
    frame = frame entries 0;
    pool = pool;
    next = 3;
  }

  -- after these acts the frame goes on with these operands
  abbrev pub leaves : List Act → List Value → Outcome
  leaves acts entries = Goes (acts ++ Changes (SetsTop (record { 0 = 1 }) (frame entries 3)) ∷ [])
