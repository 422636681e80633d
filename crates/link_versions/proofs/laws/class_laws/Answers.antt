use Rattle.link_versions.proofs.Counting.{installed_there, installed_newest, versions_stay, numbers_stay, orders_stay, superclasses_stay, states_stay, classes_stay, defined_there}
use Rattle.link_versions.proofs.NumberLaws.{method_numbers_stay, declared_as, lets_go, lets_in, defined_numbered}
use Rattle.link_versions.proofs.NewNumbers.{numbers_new}
use Rattle.link_versions.proofs.laws.class_laws.Goals as goal

pub returns-clause-installed : goal.returns-clause-installed
returns-clause-installed c = installed_there

pub returns-clause-newest : goal.returns-clause-newest
returns-clause-newest c = installed_newest

pub returns-clause-versions : goal.returns-clause-versions
returns-clause-versions c = versions_stay

pub returns-clause-numbers : goal.returns-clause-numbers
returns-clause-numbers c = numbers_stay

pub returns-clause-orders : goal.returns-clause-orders
returns-clause-orders c = orders_stay

pub returns-clause-superclasses : goal.returns-clause-superclasses
returns-clause-superclasses c = superclasses_stay

pub returns-clause-states : goal.returns-clause-states
returns-clause-states c = states_stay

pub returns-clause-classes : goal.returns-clause-classes
returns-clause-classes c = classes_stay

pub returns-clause-defined : goal.returns-clause-defined
returns-clause-defined c = defined_there

pub returns-clause-method_numbers : goal.returns-clause-method_numbers
returns-clause-method_numbers c = method_numbers_stay

pub returns-clause-declared : goal.returns-clause-declared
returns-clause-declared c = declared_as

pub returns-clause-lets_go : goal.returns-clause-lets_go
returns-clause-lets_go c = lets_go

pub returns-clause-lets_in : goal.returns-clause-lets_in
returns-clause-lets_in c = lets_in

pub returns-clause-numbered : goal.returns-clause-numbered
returns-clause-numbered c = defined_numbered

pub returns-clause-new_numbers : goal.returns-clause-new_numbers
returns-clause-new_numbers c = numbers_new
