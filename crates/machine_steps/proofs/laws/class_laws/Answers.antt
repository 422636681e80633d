use Rattle.std.proofs.Common.{refl}
use Rattle.machine_steps.proofs.AcceptedNames.{accepts_same_names}
use Rattle.machine_steps.proofs.AddedArrays.{classes_are_lawful}
use Rattle.machine_steps.proofs.LoadingSupers.{loads_supers_first}
use Rattle.machine_steps.proofs.LawfulClasses.{arrays_are_of_their_names, classes_are_placed, versions_are_well_formed}
use Rattle.machine_steps.proofs.laws.class_laws.Goals as goal

pub returns-clause-base_numbers : goal.returns-clause-base_numbers
returns-clause-base_numbers c = record { string = refl; string_builder = refl; class = refl }

pub returns-clause-placed : goal.returns-clause-placed
returns-clause-placed c = classes_are_placed

pub returns-clause-formed : goal.returns-clause-formed
returns-clause-formed c = versions_are_well_formed

pub returns-clause-arrays : goal.returns-clause-arrays
returns-clause-arrays c = arrays_are_of_their_names

pub returns-clause-supers : goal.returns-clause-supers
returns-clause-supers c = loads_supers_first

pub returns-clause-accepted : goal.returns-clause-accepted
returns-clause-accepted c = accepts_same_names

pub returns-clause-lawful : goal.returns-clause-lawful
returns-clause-lawful c = classes_are_lawful
