-- A class call makes a version of each of its classes, or of none.
use Rattle.std.proofs.Common.{◌≡◌, ◌∙◌, ◌⊎◌, inl, inr, List, [], ◌∷◌, ◌++◌, map, Option, Some, None, refl, sym, ap, append_assoc, append-nil}
use Rattle.ti_ids.specs.declared.actor.Actor.{Actor}
use Rattle.ti_codes.specs.declared.error.ErrorCode.{ErrorCode}
use Rattle.ti_codes.specs.declared.error.ErrorCode.TheVariants as errors
use Rattle.machine_state.specs.Jobs.{Job}
use Rattle.machine_state.specs.Trace.{Record}
use Rattle.machine_state.specs.Versions.{Turns}
use Rattle.machine_state.specs.Acts.{State, Act, Notes}
use Rattle.tool_answer.specs.Redefining.{Outcome, Replacing, unless_refused, refusal_at, notes_at, replaces_from}
use Rattle.tool_answer.specs.Laws.{AllOrNone, ArePassed, Installs, Refuses, turns_at}

module _ (job : Job) (turns : Turns) (s : State) (actor : Actor) where
  -- the same behind acts, where these records follow at the end
  record Installed (acts : List Act) (made : List Record) (rs : List Replacing) (o : Outcome) : Type 0 where
    passed : ArePassed job turns s actor rs
    code : o.code ≡ errors.None
    behind : o.acts ≡ acts ++ (turns_at job turns s actor rs ++ map Notes made)

  record Refused (acts : List Act) (rs : List Replacing) (o : Outcome) : Type 0 where
    before : List Replacing
    at : Replacing
    rest : List Replacing
    parts : rs ≡ before ++ at ∷ rest
    passed : ArePassed job turns s actor before
    refusal : refusal_at job turns s actor at ≡ Some o.code
    behind : o.acts ≡ acts ++ turns_at job turns s actor (before ++ at ∷ [])

  abbrev Ends : List Act → List Record → List Replacing → Outcome → Type 0
  Ends acts made rs o = Installed acts made rs o ⊎ Refused acts rs o

  -- one more passes before these
  one_more : (acts : List Act) (made : List Record) (r : Replacing) (rs : List Replacing) (o : Outcome) → refusal_at job turns s actor r ≡ None
      → Ends (acts ++ notes_at job turns s actor r) made rs o → Ends acts made (r ∷ rs) o
  one_more acts made r rs o none (inl i) = inl (record {
    passed = (none, i.passed);
    code = i.code;
    behind =
        i.behind ∙ append_assoc acts (notes_at job turns s actor r) (turns_at job turns s actor rs ++ map Notes made)
        ∙ ap (λ (more : List Act). acts ++ more) (sym (append_assoc (notes_at job turns s actor r) (turns_at job turns s actor rs) (map Notes made)));
  })
  one_more acts made r rs o none (inr f) = inr (record {
    before = r ∷ f.before;
    at = f.at;
    rest = f.rest;
    parts = ap (λ (more : List Replacing). r ∷ more) f.parts;
    passed = (none, f.passed);
    refusal = f.refusal;
    behind = f.behind ∙ append_assoc acts (notes_at job turns s actor r) (turns_at job turns s actor (f.before ++ f.at ∷ []));
  })

  ends_or : (acts : List Act) (made : List Record) (r : Replacing) (rs : List Replacing) (refusal : Option ErrorCode) (otherwise : Outcome)
      → refusal_at job turns s actor r ≡ refusal → Ends (acts ++ notes_at job turns s actor r) made rs otherwise
      → Ends acts made (r ∷ rs) (unless_refused refusal (acts ++ notes_at job turns s actor r) otherwise)
  ends_or acts made r rs (Some code) otherwise is more = inr (record {
    before = [];
    at = r;
    rest = rs;
    parts = refl;
    passed = tt;
    refusal = is;
    behind = ap (λ (more : List Act). acts ++ more) (sym (append-nil (notes_at job turns s actor r)));
  })
  ends_or acts made r rs None otherwise is more = one_more acts made r rs otherwise is more

  ends_from : (acts : List Act) (made : List Record) (rs : List Replacing) → Ends acts made rs (replaces_from job turns s actor acts made rs)
  ends_from acts made [] = inl (record { passed = tt; code = refl; behind = refl })
  ends_from acts made (r ∷ rs) =
      let behind = acts ++ notes_at job turns s actor r in
      ends_or acts made r rs (refusal_at job turns s actor r) (replaces_from job turns s actor behind made rs) refl (ends_from behind made rs)

  in_words : (rs : List Replacing) (o : Outcome) → Ends [] (map (λ r. r.makes) rs) rs o
      → Installs job turns s actor rs o ⊎ Refuses job turns s actor rs o
  in_words rs o (inl i) = inl (record { passed = i.passed; code = i.code; acts = i.behind })
  in_words rs o (inr f) = inr (record {
    before = f.before;
    at = f.at;
    rest = f.rest;
    parts = f.parts;
    passed = f.passed;
    refusal = f.refusal;
    acts = f.behind;
  })

pub all_or_none : AllOrNone
all_or_none job turns s actor rs = in_words job turns s actor rs _ (ends_from job turns s actor [] (map (λ r. r.makes) rs) rs)
