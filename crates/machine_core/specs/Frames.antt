-- What the code does to a thread's frames, of which the last is the top.
use Rattle.std.specs.Prelude.{◌≡◌, ◌+◌, ◌++◌, ◌∷◌, [], List, reverse, Option, Some, None, MatchOption}
use Rattle.std.specs.Option.{option_to_list}
use Rattle.ti_ids.specs.declared.number.ObjNo.{ObjNo}
use Rattle.ti_ids.specs.declared.value.Value.TheVariants.{Ref}
use Rattle.ti_ids.specs.declared.state.Announced.TheVariants.{New, No}
use Rattle.ti_ids.specs.declared.state.InitState.{InitState}
use Rattle.ti_ids.specs.declared.state.ThreadState.{ThreadState}
use Rattle.ti_ids.specs.declared.state.ThreadState.TheVariants.{Unbegun, Entering, Running, Ended}
use Rattle.first_form.specs.declared.Instr.{Instr}
use Rattle.first_form.specs.ClassFiles.{MainClass}
use Rattle.first_form.specs.Instructions.{size, instr_at, NamesKnown}
use Rattle.machine_model.specs.declared.ThreadRule.{ThreadRule}
use Rattle.machine_model.specs.declared.ThreadRule.TheVariants as rules
use Rattle.machine_model.specs.Effects as effects
use Rattle.machine_model.specs.Effects.{printed_int}
use Rattle.machine_model.specs.Rules.{entry_rule}
use Rattle.machine_core.specs.declared.frame.JavaFrame.{JavaFrame}
use Rattle.machine_core.specs.declared.frame.Frame.{Frame}
use Rattle.machine_core.specs.declared.frame.Frame.TheVariants.{Init, Java}
use Rattle.machine_core.specs.declared.thread.Thread.{Thread}
use Rattle.machine_core.specs.declared.operands.Done.{Done}
use Rattle.machine_core.specs.declared.operands.Done.TheVariants.{Goes, Prints, Leaves, Misfit}
use Rattle.machine_core.specs.Performs.{known_effect}

pub record IsMainFrame (f : JavaFrame) (argument : ObjNo) : Type 0 where
  pub pc : f.pc ≡ 0
  pub locals : f.locals.items ≡ Ref (Some argument) ∷ []
  pub stack : f.stack.items ≡ []
  pub announced : f.announced ≡ New

-- the frame goes on to the next instruction
pub record GoesOn (i : Instr) (f g : JavaFrame) : Type 0 where
  pub pc : g.pc ≡ f.pc + size i
  pub locals : g.locals.items ≡ f.locals.items
  pub announced : g.announced ≡ No

-- the frame is as it was
pub record Stays (f g : JavaFrame) : Type 0 where
  pub pc : g.pc ≡ f.pc
  pub locals : g.locals.items ≡ f.locals.items
  pub stack : reverse g.stack.items ≡ reverse f.stack.items
  pub announced : g.announced ≡ f.announced

-- an instruction on a frame
abbrev pub FrameDone : Done → Instr → JavaFrame → JavaFrame → Type 0
FrameDone Goes i f g = GoesOn i f g × (known_effect i (reverse f.stack.items) ≡ effects.Goes (reverse g.stack.items))
FrameDone (Prints v) i f g = GoesOn i f g × (known_effect i (reverse f.stack.items) ≡ effects.Prints (printed_int v) (reverse g.stack.items))
FrameDone Leaves i f g = known_effect i (reverse f.stack.items) ≡ effects.Leaves
FrameDone Misfit i f g = Stays f g × (known_effect i (reverse f.stack.items) ≡ effects.Misfit)

-- the instruction at the pc, if there is one
abbrev pub Steps : MainClass → JavaFrame → JavaFrame → Done → Type 0
Steps c f g done = MatchOption (instr_at c.code f.pc) ((done ≡ Misfit) × Stays f g) (λ i. NamesKnown i × FrameDone done i f g)

-- the frames after that: all are there but one that is left
abbrev pub left_by : Done → List Frame → JavaFrame → List Frame
left_by Goes rest g = rest ++ Java g ∷ []
left_by (Prints v) rest g = rest ++ Java g ∷ []
left_by Leaves rest g = rest
left_by Misfit rest g = rest ++ Java g ∷ []

abbrev pub TopDone : MainClass → Done → Option Frame → List Frame → List Frame → Type 0
TopDone c done None rest new = (done ≡ Misfit) × (new ≡ rest)
TopDone c done (Some Init) rest new = (done ≡ Misfit) × (new ≡ rest ++ Init ∷ [])
TopDone c done (Some (Java f)) rest new = (g : JavaFrame) × Steps c f g done × (new ≡ left_by done rest g)

-- the top frame's instruction was performed
pub record Executed (c : MainClass) (done : Done) (old new : List Frame) : Type 0 where
  pub top : Option Frame
  pub rest : List Frame
  pub parts : old ≡ rest ++ option_to_list top
  pub empty : top ≡ None → old ≡ []
  pub does : TopDone c done top rest new

-- ---- the rule of a thread as the code sees it, its frames from the top

abbrev pub rule_on_top : List Frame → ThreadRule → ThreadRule
rule_on_top [] otherwise = otherwise
rule_on_top (Init ∷ frames) otherwise = rules.EndInit
rule_on_top (Java f ∷ frames) otherwise = rules.Execute

abbrev pub rule_by : ThreadState → List Frame → Option InitState → Option ThreadRule
rule_by Unbegun frames class = Some rules.Begin
rule_by Entering frames class = Some (rule_on_top frames (entry_rule class))
rule_by Running frames class = Some (rule_on_top frames rules.Finish)
rule_by Ended frames class = None

abbrev pub rule_seen : Option InitState → Thread → Option ThreadRule
rule_seen class t = rule_by t.state (reverse t.frames.items) class
