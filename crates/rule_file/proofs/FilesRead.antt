-- What agents' files say, computed.
use Rattle.std.proofs.Common.{refl}
use Rattle.std.specs.Str.{chars, is_utf8}
use Rattle.toml.proofs.OnLiterals.{toml_on_literals}
use Rattle.std.specs.List.{AllByRecursion}
use Rattle.rule_file.specs.FileRows.{IsRefused, SaysOne, FaultsTold, top_cases, rule_cases, kind_cases, call_cases}

pub says_one : SaysOne
unfolding toml_on_literals chars is_utf8 lib.Utf8.encode
says_one = refl

top_told : AllByRecursion IsRefused top_cases
unfolding toml_on_literals chars is_utf8 lib.Utf8.encode
top_told = (refl, (refl, (refl, (refl, (refl, (refl, (refl, (refl, (refl, (refl, tt))))))))))

rules_told : AllByRecursion IsRefused rule_cases
unfolding toml_on_literals chars is_utf8 lib.Utf8.encode
rules_told = (refl, (refl, (refl, (refl, (refl, (refl, (refl, (refl, tt))))))))

kinds_told : AllByRecursion IsRefused kind_cases
unfolding toml_on_literals chars is_utf8 lib.Utf8.encode
kinds_told = (refl, (refl, (refl, (refl, (refl, (refl, (refl, tt)))))))

calls_told : AllByRecursion IsRefused call_cases
unfolding toml_on_literals chars is_utf8 lib.Utf8.encode
calls_told = (refl, (refl, (refl, (refl, (refl, (refl, (refl, (refl, (refl, (refl, (refl, (refl, (refl, (refl, tt))))))))))))))

pub faults_told : FaultsTold
faults_told = record { top = top_told; rules = rules_told; kinds = kinds_told; calls = calls_told }
