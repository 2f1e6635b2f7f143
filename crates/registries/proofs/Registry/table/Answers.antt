-- `Registry::table` has the table of the definition: the two are equal by computing. Assumes nothing.
use mathlib.Core.Path.{refl}
use Rattle.script.specs.Scan.{distance, find_of}
use Rattle.script.specs.Words.{word_from, word_of}
use Rattle.registries.specs.Registry.{texts, word}
use Rattle.registries.specs.Tables.{suites, suite_names, groups, group_names, algorithms, algorithm_names, types, type_names}
use Rattle.registries.specs.Tables.{versions, version_names, parameters, parameter_names}
use Rattle.registries.proofs.Registry.table.Goals as goal

pub returns-in-Suites : goal.returns-in-Suites
unfolding suites suite_names texts word word_of word_from find_of distance
returns-in-Suites c = rw c.in-Suites.is (record { numbers_are = refl; names_are = refl })

pub returns-in-Groups : goal.returns-in-Groups
unfolding groups group_names texts word word_of word_from find_of distance
returns-in-Groups c = rw c.in-Groups.is (record { numbers_are = refl; names_are = refl })

pub returns-in-Algorithms : goal.returns-in-Algorithms
unfolding algorithms algorithm_names texts word word_of word_from find_of distance
returns-in-Algorithms c = rw c.in-Algorithms.is (record { numbers_are = refl; names_are = refl })

pub returns-in-Types : goal.returns-in-Types
unfolding types type_names texts word word_of word_from find_of distance
returns-in-Types c = rw c.in-Types.is (record { numbers_are = refl; names_are = refl })

pub returns-in-Versions : goal.returns-in-Versions
unfolding versions version_names texts word word_of word_from find_of distance
returns-in-Versions c = rw c.in-Versions.is (record { numbers_are = refl; names_are = refl })

pub returns-in-Parameters : goal.returns-in-Parameters
unfolding parameters parameter_names texts word word_of word_from find_of distance
returns-in-Parameters c = rw c.in-Parameters.is (record { numbers_are = refl; names_are = refl })
