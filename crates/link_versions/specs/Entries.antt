-- What the entries of the table say, the first class first, and what they keep.
use Rattle.std.specs.Prelude.{◌≡◌, ℕ, zero, suc, Bool, List, [], ◌∷◌, ◌++◌, map, reverse, length, position, bytes_eq, Option, IfSome, IsTrue, All}
use Rattle.std.specs.List.{AllByRecursion}
use Rattle.std.specs.Global.{Vec}
use Rattle.jv_names.specs.Names.{Name}
use Rattle.class_code.specs.declared.instr.Instr.{Instr}
use Rattle.class_code.specs.Listing.{IsRising}
use Rattle.class_tree.specs.Tree.{is_named}
use Rattle.class_tree.specs.WellFormed.{is_well_formed}
use Rattle.link_versions.specs.declared.class.Entry.{Entry}
use Rattle.link_versions.specs.declared.class.EntryKind.{EntryKind}
use Rattle.link_versions.specs.declared.class.EntryKind.TheVariants as entry_kinds
use Rattle.ti_ids.specs.declared.state.InitState.{InitState}
use Rattle.link_versions.specs.declared.class.Version.{Version}
use Rattle.link_versions.specs.Classes.{Class, Kind, OfFile, OfArray}
use Rattle.link_versions.specs.Orders.{lookup_order, superclasses}
use Rattle.link_versions.specs.MemberIndexes.{found_in}
use Rattle.link_versions.specs.ReadyCode.{ready_code}
use Rattle.link_versions.specs.Changes.{IsLawful}

abbrev pub kind_of : EntryKind → Kind
kind_of (entry_kinds.File versions) = OfFile (map (λ v. v.tree) versions)
kind_of (entry_kinds.Array dimensions element) = OfArray dimensions element

-- a class as contracts see it
abbrev pub class_of : Entry → Class
class_of e = record { name = e.name; parent = e.parent; interfaces = e.interfaces; kind = kind_of e.kind; state = e.state }

-- all classes
unfoldable pub classes_of : List Entry → List Class
classes_of entries = map class_of (reverse entries)

-- ---- what an entry keeps

-- a method's code, where it has one, is a list of which the offsets rise
abbrev pub RisesIfThere : Option (List (ℕ × Instr)) → Type 0
RisesIfThere code = IfSome code IsRising

-- A version is well-formed, its codes are those of its methods, and its indexes find the first member of a name and a descriptor.
pub record IsReady (v : Version) : Type 0 where
  pub well_formed : IsTrue (is_well_formed v.tree)
  pub codes : v.codes ≡ map (ready_code v.tree.pool) v.tree.methods
  pub rising : All RisesIfThere v.codes
  pub fields : (name desc : Name) → found_in v.fields name desc ≡ position (is_named v.tree.pool name desc) v.tree.fields
  pub methods : (name desc : Name) → found_in v.methods name desc ≡ position (is_named v.tree.pool name desc) v.tree.methods

abbrev pub AreReady : EntryKind → Type 0
AreReady (entry_kinds.File versions) = AllByRecursion IsReady versions
AreReady (entry_kinds.Array dimensions element) = Unit {0}

pub record IsSound (older : List Class) (e : Entry) : Type 0 where
  pub lawful : IsLawful older (class_of e)
  pub order : e.order ≡ lookup_order (class_of e ∷ older) (record { 0 = length (class_of e ∷ older) })
  pub supers : e.supers ≡ superclasses (class_of e ∷ older) (record { 0 = length (class_of e ∷ older) })
  pub codes : AreReady e.kind

-- the newest first
abbrev pub AreSound : List Entry → Type 0
AreSound [] = Unit {0}
AreSound (e ∷ older) = IsSound (map class_of older) e × AreSound older

unfoldable pub IsTable : List Entry → Type 0
IsTable entries = AreSound (reverse entries)

-- ---- entries by their names

abbrev pub has_name : Name → Entry → Bool
has_name name e = bytes_eq name e.name

-- each entry is held by its name
abbrev pub AreKeyed : List (Vec ℕ × Entry) → Type 0
AreKeyed es = map (λ p. p.0.items) es ≡ map (λ p. p.1.name) es

-- ---- changes of one entry

abbrev pub kind_with : Version → EntryKind → EntryKind
kind_with v (entry_kinds.File versions) = entry_kinds.File (versions ++ v ∷ [])
kind_with v (entry_kinds.Array dimensions element) = entry_kinds.Array dimensions element

-- one version more
abbrev pub with_added : Version → Entry → Entry
with_added v e = record e { kind = kind_with v e.kind }

abbrev pub with_init_state : InitState → Entry → Entry
with_init_state s e = record e { state = s }

-- it is the entry of a class of a file
abbrev pub IsFileKind : EntryKind → Type 0
IsFileKind (entry_kinds.File versions) = Unit {0}
IsFileKind (entry_kinds.Array dimensions element) = ⊥

abbrev pub IsFileEntry : Entry → Type 0
IsFileEntry e = IsFileKind e.kind

-- the entries with a change of the one at this place
abbrev pub changed_at : (Entry → Entry) → List Entry → ℕ → List Entry
changed_at change [] i = []
changed_at change (e ∷ es) zero = change e ∷ es
changed_at change (e ∷ es) (suc i) = e ∷ changed_at change es i
