-- Each kind of rule, on a class by `javac`: its bytes, or that it fails.
use Rattle.std.specs.Prelude.{◌≡◌, ℕ, pos, List, [], ◌∷◌, Option, Some, None, codes}
use Rattle.agent_types.specs.declared.rule.Rule.{Rule}
use Rattle.agent_types.specs.declared.rule.Edit.{Edit}
use Rattle.agent_types.specs.declared.rule.Edit.TheVariants.{File, Body, Add, Entry, Redirect, Constant}
use Rattle.rule_edit.specs.EditFiles.{given, donor, with_nine, with_great, entered_f, redirected, with_body, with_added, with_both}
use Rattle.rule_edit.specs.Turns.{set_turn}

-- the donors: the second is no class file
abbrev pub donors : List (List ℕ)
donors = donor ∷ (1 ∷ 2 ∷ 3 ∷ []) ∷ []

-- a rule of the set `s` for the class
abbrev pub rule : Edit → Rule
rule e = record { set = codes "s"; class = codes "Edited"; edit = e }

-- What a set of these edits makes of the class.
abbrev pub Makes : List Edit → Option (List ℕ) → Type 0
Makes edits made = set_turn donors (rules edits) (codes "s") (codes "Edited") given ≡ made
  where
    rules : List Edit → List Rule
    rules [] = []
    rules (e ∷ es) = rule e ∷ rules es

abbrev pub nine : Edit
nine = Constant (codes "f") (codes "(I)I") (pos 7) (pos 9)

abbrev pub watched : Edit
watched = Entry (codes "f") (codes "(I)I") (codes "Watch") (codes "seen")

-- each kind once; with two rules the second one goes by what the first one made
pub record MakeThese : Type 0 where
  pub file : Makes (File 1 ∷ []) (Some donor)
  pub constant : Makes (nine ∷ []) (Some with_nine)
  pub constant_in_pool : Makes (Constant (codes "f") (codes "(I)I") (pos 100000) (pos 70000) ∷ []) (Some with_great)
  pub entry : Makes (watched ∷ []) (Some entered_f)
  pub redirect : Makes (Redirect (codes "Edited") (codes "h") (codes "()V") (codes "Watch") (codes "h") ∷ []) (Some redirected)
  pub body : Makes (Body (codes "f") (codes "(I)I") 1 ∷ []) (Some with_body)
  pub add : Makes (Add (codes "k") (codes "()J") 1 ∷ []) (Some with_added)
  pub both : Makes (nine ∷ watched ∷ []) (Some with_both)
  -- nothing is replaced, and nothing is changed
  pub unmet : Makes (Constant (codes "g") (codes "()V") (pos 7) (pos 9) ∷ []) (Some given)

-- what fails: a set without rules for the class; a form that can't hold the int; a method or a donor that is missing, or has no code; a
-- method that the class has; a name that is none; a failure behind a rule that doesn't fail
pub record FailThese : Type 0 where
  pub none : Makes [] None
  pub form : Makes (Constant (codes "f") (codes "(I)I") (pos 7) (pos 128) ∷ []) None
  pub method : Makes (Constant (codes "f") (codes "()V") (pos 7) (pos 9) ∷ []) None
  pub codeless : Makes (Entry (codes "m") (codes "()V") (codes "Watch") (codes "seen") ∷ []) None
  pub no_donor : Makes (File 3 ∷ []) None
  pub no_class : Makes (Body (codes "f") (codes "(I)I") 2 ∷ []) None
  pub no_method : Makes (Body (codes "g") (codes "()V") 1 ∷ []) None
  pub there : Makes (Add (codes "f") (codes "(I)I") 1 ∷ []) None
  pub name : Makes (Entry (codes "f") (codes "(I)I") (codes "a;b") (codes "seen") ∷ []) None
  pub behind : Makes (nine ∷ File 3 ∷ []) None
