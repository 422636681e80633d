-- The laws of faults that are looked for, and of what is found without one.
use Rattle.std.proofs.Common.{◌≡◌, Bool, true, false, Option, Some, None, Ok, refl}
use Rattle.std.specs.Prelude.{is_none}
use Rattle.std.specs.Option.{option_or, option_map}
use Rattle.classfile_items.specs.declared.fault.ReadClassFault.{ReadClassFault}
use Rattle.classfile_items.specs.Reading.{FaultOf, unless, faultless}

abbrev pub none : FaultOf
none = None

pub unless_holds : (test : Bool) (fault : ReadClassFault) → unless test fault ≡ none → test ≡ true
unless_holds true fault e = refl
unless_holds false fault e = cc

pub or_none : (a b : FaultOf) → option_or a b ≡ none → (a ≡ none) × (b ≡ none)
or_none None b e = (refl, e)
or_none (Some fault) b e = cc

pub mapped_none : {A : Type 0} (f : A → ReadClassFault) (o : Option A) → option_map f o ≡ none → is_none o ≡ true
mapped_none f None e = refl
mapped_none f (Some x) e = cc

pub none_mapped : {A : Type 0} (f : A → ReadClassFault) (o : Option A) → is_none o ≡ true → option_map f o ≡ none
none_mapped f None e = refl
none_mapped f (Some x) e = cc

-- what goes by no fault is the value
pub record Faultless {A : Type 0} (fault : FaultOf) (x y : A) : Type 0 where
  pub none : fault ≡ none
  pub same : x ≡ y

pub faultless_of : {A : Type 0} (fault : FaultOf) (x y : A) → faultless fault x ≡ Ok y → Faultless fault x y
faultless_of None x y e = record { none = refl; same = cc }
faultless_of (Some fault) x y e = cc

pub or_both : (a b : FaultOf) → a ≡ none → b ≡ none → option_or a b ≡ none
or_both a b p q = rw (p, q) refl
