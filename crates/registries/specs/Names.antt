-- The registries by their name in the code: a table each, and what it calls a number.
use Rattle.std.specs.Prelude.{ℕ, zero, suc, ◌≡◌, List, [], ◌∷◌, length, map}
use denote.Ref.{Bor}
use Rattle.registries.specs.Registry.{word}
use Rattle.registries.specs.Tables.{suites, suite_names, suite_name, groups, group_names, group_name}
use Rattle.registries.specs.Tables.{algorithms, algorithm_names, algorithm_name, types, type_names, type_name}
use Rattle.registries.specs.Tables.{versions, version_names, version_name, parameters, parameter_names, parameter_name}
use Rattle.registries.specs.declared.Registry.{Registry}
use Rattle.registries.specs.declared.Registry.TheVariants as registry

abbrev pub numbers_of : Registry → List ℕ
numbers_of registry.Suites = suites
numbers_of registry.Groups = groups
numbers_of registry.Algorithms = algorithms
numbers_of registry.Types = types
numbers_of registry.Versions = versions
numbers_of registry.Parameters = parameters

abbrev pub names_of : Registry → List ℕ
names_of registry.Suites = suite_names
names_of registry.Groups = group_names
names_of registry.Algorithms = algorithm_names
names_of registry.Types = type_names
names_of registry.Versions = version_names
names_of registry.Parameters = parameter_names

-- the name of a number, or the spare word
abbrev pub name_of : Registry → ℕ → ℕ → List ℕ
name_of registry.Suites = suite_name
name_of registry.Groups = group_name
name_of registry.Algorithms = algorithm_name
name_of registry.Types = type_name
name_of registry.Versions = version_name
name_of registry.Parameters = parameter_name

-- a number beside its name
abbrev pub Entry : Type 0
Entry = ℕ × Bor (List ℕ)

-- n places from the k-th on
abbrev pub places : ℕ → ℕ → List ℕ
places zero k = []
places (suc n) k = k ∷ places n (suc k)

-- a table's numbers, and beside each the word of a text that has as many words before it
pub record Tabled (numbers names : List ℕ) (entries : List Entry) : Type 0 where
  pub numbers_are : map (λ (e : Entry). e.0) entries ≡ numbers
  pub names_are : map (λ (k : ℕ). word names k) (places (length entries) 0) ≡ map (λ (e : Entry). e.1.now) entries
