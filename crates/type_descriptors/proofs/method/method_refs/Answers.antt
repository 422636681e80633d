use Rattle.std.proofs.Common.{ap, sym}
use Rattle.std.specs.Prelude.{option_map, IfOk, Result, Ok, Err}
use Rattle.type_descriptors.specs.Methods.{method_seen}
use Rattle.type_frames.specs.Environments.{method_vtypes}
use Rattle.type_descriptors.proofs.MethodTexts.{method_type-none, method_seen_is}
use Rattle.type_descriptors.proofs.method.method_refs.Goals as goal

with_ok : {T E : Type 0} {P Q : T → Type 0} (r : Result T E) → ((x : T) → P x → Q x) → IfOk r P → IfOk r Q
with_ok (Ok x) f p = f x p
with_ok (Err e) f p = tt

pub returns-in-Some : goal.returns-in-Some
returns-in-Some c = sym (ap (option_map method_vtypes) (method_type-none c.args.text.now c.in-Some.field-0 c.in-Some.ensures.says))

pub returns-in-None : goal.returns-in-None
returns-in-None c =
    with_ok c.spelled_refs.result (λ refs all. method_seen_is c.args.text.now (option_map method_seen refs) c.in-None.ensures.says all) (rw c.as_slice.ensures at c.spelled_refs.ensures)
