-- A frame that was born runs the code that it ran.
use Rattle.std.proofs.Common.{◌≡◌, ◌∙◌, ℕ, suc, List, [], ◌∷◌, ◌++◌, length, take, refl, sym, ap, arith}
use Rattle.std.proofs.lemmas.List.{take-append-le}
use Rattle.ti_ids.specs.declared.number.ClassNo.{ClassNo}
use Rattle.jv_names.specs.Names.{Name}
use Rattle.link_versions.specs.Classes.{newest_version}
use Rattle.link_versions.specs.ReadyCode.{code_in}
use Rattle.machine_state.specs.Jobs.{Job}
use Rattle.machine_state.specs.Core.{CoreClass}
use Rattle.machine_state.specs.Trace.{Trace}
use Rattle.machine_state.specs.Versions.{Turns}
use Rattle.machine_state.specs.Linked.{linked}
use Rattle.machine_state.specs.Laws.{names_of, IsThere, KeepsCode}
use Rattle.machine_state.proofs.Alike.{kind_at, kind_kept, alike_kind, linked_alike, code_kept}

-- as many classes have as many names
names_length : (cs : List CoreClass) → length (names_of cs) ≡ length cs
names_length [] = refl
names_length (c ∷ cs) = ap (λ (n : ℕ). suc n) (names_length cs)

pub length_names : (cs ds : List CoreClass) → names_of cs ≡ names_of ds → length cs ≡ length ds
length_names cs ds e = sym (names_length cs) ∙ ap (λ (l : List Name). length l) e ∙ names_length ds

pub kind_stays : (job : Job) (turns : Turns) (trace : Trace) (classes new after : List CoreClass) (n : ClassNo) → IsThere classes n → names_of after ≡ names_of classes
    → kind_at (linked job turns trace (new ++ after)) n.0 ≡ kind_at (linked job turns trace classes) n.0
kind_stays job turns trace classes new after n there e =
    kind_kept job turns trace new after n.0 (omega (arith, there.1, length_names after classes e))
    ∙ alike_kind (linked job turns trace after) (linked job turns trace classes) n.0 (linked_alike job turns trace after classes e)

pub keeps_code : KeepsCode
keeps_code job turns trace more classes new after f born e =
    ap (λ (t : Trace). (let cs = linked job turns t (new ++ after) in code_in cs (newest_version cs f.class) f.method)) (take-append-le f.pin.birth trace more born.birth)
    ∙ code_kept (linked job turns (take f.pin.birth trace) (new ++ after)) (linked job turns (take f.pin.birth trace) classes) f.class f.method
    (kind_stays job turns (take f.pin.birth trace) classes new after f.class born.class e) (kind_stays job turns (take f.pin.birth trace) classes new after f.method.class born.method e)
