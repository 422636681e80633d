-- What a step does to the core, and the records that it adds to the trace.
use Rattle.std.specs.Prelude.{ℕ, ◌+◌, List, [], ◌∷◌, ◌++◌, length, Option, Some, None, true, codes}
use Rattle.ti_ids.specs.declared.value.Value.{Value}
use Rattle.ti_ids.specs.declared.value.Value.TheVariants.{Ref}
use Rattle.ti_ids.specs.declared.state.Announced.{Announced}
use Rattle.ti_ids.specs.declared.state.Announced.TheVariants.{New, Caught, No, Yes}
use Rattle.ti_ids.specs.declared.state.ThreadState.TheVariants.{Unbegun, Entering, Running, Ended}
use Rattle.ti_ids.specs.declared.state.InitState.TheVariants as states
use Rattle.ti_codes.specs.declared.phase.Phase.TheVariants as phases
use Rattle.machine_model.specs.declared.MachineRule.{MachineRule}
use Rattle.machine_model.specs.declared.MachineRule.TheVariants as machines
use Rattle.machine_model.specs.declared.ThreadRule.{ThreadRule}
use Rattle.machine_model.specs.declared.ThreadRule.TheVariants as rules
use Rattle.ti_ids.specs.Maybe.{◌>>=◌}
use Rattle.jv_names.specs.Names.{Name}
use Rattle.first_form.specs.declared.Instr.{Instr}
use Rattle.first_form.specs.Instructions.{size, at_pc}
use Rattle.first_form.specs.ClassFiles.{ClassFile, Reference}
use Rattle.machine_model.specs.Jobs.{Job, file_of}
use Rattle.machine_model.specs.Core as core
use Rattle.machine_model.specs.Core.{Core, JavaFrame, Frame, Java, Init, Object, Fields, Elements, Static, with_thread, with_state}
use Rattle.machine_model.specs.Trace.{Place, Returned, VMStart, VMInit, VMDeath, ThreadStart, ThreadEnd, ClassLoad, ClassPrepare, MethodEntry, SingleStep, MethodExit, FramePop, VMObjectAlloc, Record, Started, Inited, Died, Loaded, Raised, Entry, tree_at, code}
use Rattle.machine_model.specs.Effects as effects
use Rattle.machine_model.specs.Effects.{Effect, effect, system_out}
use Rattle.machine_model.specs.Rules.{State}

pub record Change : Type 0 where
  pub core : Core
  pub records : List Record

-- ---- the performing of an instruction

abbrev pub method_of : JavaFrame → Reference
method_of f = record { class = f.class; name = f.method; descriptor = f.descriptor }

abbrev pub place_of : JavaFrame → Place
place_of f = record { method = method_of f; pc = f.pc }

-- The events before an instruction, each once, where it was not announced. No handler is entered, no breakpoint set and no field watched yet.
abbrev pub pre_events_by : Announced → ℕ → JavaFrame → List Record
pre_events_by New t f = Raised (MethodEntry t (method_of f)) ∷ Raised (SingleStep t (place_of f)) ∷ []
pre_events_by Caught t f = Raised (SingleStep t (place_of f)) ∷ []
pre_events_by No t f = Raised (SingleStep t (place_of f)) ∷ []
pre_events_by Yes t f = []

abbrev pub pre_events : ℕ → JavaFrame → List Record
pre_events t f = pre_events_by f.announced t f

-- the frame at the next instruction
abbrev pub gone_on : JavaFrame → Instr → List Value → JavaFrame
gone_on f i stack = record f { pc = f.pc + size i; stack = stack; announced = No }

-- an effect on the top frame of a thread, with the frames below it
abbrev pub performed : Core → ℕ → core.Thread → JavaFrame → List Frame → Instr → Effect → Change
performed c t thread f below i (effects.Goes stack) = record {
  core = with_thread c t (record thread { frames = Java (gone_on f i stack) ∷ below });
  records = pre_events t f;
}
performed c t thread f below i (effects.Prints text stack) = record {
  core = record (with_thread c t (record thread { frames = Java (gone_on f i stack) ∷ below })) { output = c.output ++ text };
  records = pre_events t f;
}
performed c t thread f below i effects.Leaves = record {
  core = with_thread c t (record thread { frames = below });
  records = pre_events t f ++ Raised (MethodExit t (method_of f) Returned) ∷ Raised (FramePop t (method_of f) Returned f.birth) ∷ [];
}
performed c t thread f below i effects.Misfit = record { core = c; records = pre_events t f }

-- the instruction at a frame's pc, and the tree of the class that it stands in
abbrev pub instruction_of : List Entry → JavaFrame → Option (Instr × ClassFile)
instruction_of trace f = do
  tree ← tree_at trace f
  i ← code trace f >>= at_pc f.pc
  Some (i, tree)

-- where no instruction begins at the pc, which never is so in an accepted class, the core stays as it is
abbrev pub performed_at : Core → ℕ → core.Thread → JavaFrame → List Frame → Option (Instr × ClassFile) → Change
performed_at c t thread f below None = record { core = c; records = pre_events t f }
performed_at c t thread f below (Some p) = performed c t thread f below p.0 (effect c p.1 p.0 f.stack)

abbrev pub execute : Core → List Entry → ℕ → core.Thread → List Frame → Change
execute c trace t thread (Java f ∷ below) = performed_at c t thread f below (instruction_of trace f)
execute c trace t thread (Init name place ∷ below) = record { core = c; records = [] }
execute c trace t thread [] = record { core = c; records = [] }

-- ---- what stands ready

abbrev pub object_of : Name → Object
object_of class = record { class = class; content = Fields []; side = None }

-- System.out, the error for a full heap, and the main thread. With the array of main they take 8 heap words, and each limit allows 64.
abbrev pub first_objects : List Object
first_objects = object_of (codes "java/io/PrintStream") ∷ object_of (codes "java/lang/OutOfMemoryError") ∷ object_of (codes "java/lang/Thread") ∷ []

-- System.out is object 1
abbrev pub first_statics : List Static
first_statics = record { field = system_out; value = Ref (Some (record { 0 = 1 })) } ∷ []

abbrev pub string_array : Name
string_array = codes "[Ljava/lang/String;"

abbrev pub main_name : Name
main_name = codes "main"

abbrev pub main_descriptor : Name
main_descriptor = codes "([Ljava/lang/String;)V"

-- the frame of main, with its argument
abbrev pub main_frame : Name → ℕ → ℕ → JavaFrame
main_frame name object birth = record {
  class = name;
  method = main_name;
  descriptor = main_descriptor;
  birth = birth;
  pc = 0;
  locals = Ref (Some (record { 0 = object })) ∷ [];
  stack = [];
  announced = New;
}

-- ---- the steps of the machine itself

abbrev pub machine_change : Core → MachineRule → Change
machine_change c machines.Start = record {
  core = record c { phase = phases.Start; heap = first_objects; statics = first_statics };
  records = Started ∷ Raised VMStart ∷ [];
}
machine_change c machines.Init = record {
  core = record c { phase = phases.Live; threads = record { object = 3; state = Unbegun; frames = [] } ∷ [] };
  records = Inited ∷ Raised (VMInit 1) ∷ [];
}
machine_change c machines.RaiseDeath = record { core = record c { died = true }; records = Died ∷ Raised VMDeath ∷ [] }
machine_change c machines.Die = record { core = record c { phase = phases.Dead }; records = [] }

-- ---- the steps of a thread

abbrev pub bytes_of : Job → Name → List ℕ
bytes_of job name = elim (file_of job name) [ Some bytes ↦ bytes | None ↦ [] ]

-- JVM specification 5.5: the superclass is Object, which stands ready, and the class has no initializer
abbrev pub end_init : Core → ℕ → core.Thread → List Frame → Change
end_init c t thread (Init name place ∷ below) = record { core = with_thread (with_state c name states.Initialized) t (record thread { frames = below }); records = [] }
end_init c t thread (Java f ∷ below) = record { core = c; records = [] }
end_init c t thread [] = record { core = c; records = [] }

-- the array of no Strings is made, and main's frame pushed
abbrev pub enter : Job → State → ℕ → core.Thread → Change
enter job s t thread =
    let object = length s.core.heap + 1 in
    let records = Raised (VMObjectAlloc t object string_array) ∷ [] in record {
      core =
          with_thread (record s.core { heap = s.core.heap ++ record { class = string_array; content = Elements []; side = None } ∷ [] }) t (record thread {
            state = Running;
            frames = Java (main_frame job.main object (length s.trace + length records)) ∷ thread.frames;
          });
      records = records;
    }

abbrev pub thread_change : Job → State → ℕ → core.Thread → ThreadRule → Change
thread_change job s t thread rules.Begin = record { core = with_thread s.core t (record thread { state = Entering }); records = Raised (ThreadStart t) ∷ [] }
thread_change job s t thread rules.Load = record {
  core = record s.core { classes = s.core.classes ++ (job.main, states.Loaded) ∷ [] };
  records = Loaded job.main (bytes_of job job.main) ∷ Raised (ClassLoad t job.main) ∷ [];
}
thread_change job s t thread rules.Link = record { core = with_state s.core job.main states.Linked; records = Raised (ClassPrepare t job.main) ∷ [] }
thread_change job s t thread rules.BeginInit = record {
  core = with_thread (with_state s.core job.main (states.InProgress (record { 0 = t }))) t (record thread { frames = Init job.main 0 ∷ thread.frames });
  records = [];
}
thread_change job s t thread rules.EndInit = end_init s.core t thread thread.frames
thread_change job s t thread rules.Enter = enter job s t thread
thread_change job s t thread rules.Execute = execute s.core s.trace t thread thread.frames
thread_change job s t thread rules.Finish = record { core = with_thread s.core t (record thread { state = Ended }); records = Raised (ThreadEnd t) ∷ [] }
