use Rattle.machine_steps.proofs.Standing.{parts_of_coded}
use Rattle.machine_steps.proofs.HavingParts.{frames_have_code, states_have_parts}
use Rattle.machine_steps.proofs.SoundHeaps.{heaps_are_sound, references_are_there}
use Rattle.machine_steps.proofs.WithinLimits.{monitors_are_counted, monitors_have_tables, stacks_are_within}
use Rattle.machine_steps.proofs.laws.parts_laws.Goals as goal

pub returns-clause-coded : goal.returns-clause-coded
returns-clause-coded c = parts_of_coded

pub returns-clause-frames : goal.returns-clause-frames
returns-clause-frames c = frames_have_code

pub returns-clause-parts : goal.returns-clause-parts
returns-clause-parts c = states_have_parts

pub returns-clause-heaps : goal.returns-clause-heaps
returns-clause-heaps c = heaps_are_sound

pub returns-clause-references : goal.returns-clause-references
returns-clause-references c = references_are_there

pub returns-clause-stacks : goal.returns-clause-stacks
returns-clause-stacks c = stacks_are_within

pub returns-clause-monitors : goal.returns-clause-monitors
returns-clause-monitors c = monitors_are_counted

pub returns-clause-tables : goal.returns-clause-tables
returns-clause-tables c = monitors_have_tables
