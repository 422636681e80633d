use Rattle.std.proofs.Common.{sym, subst}
use Rattle.java_heap.specs.Heaps.{HeapValue, AllReferThere}
use Rattle.java_heap.proofs.References.{references_added, references_changed, field_put, elem_put, units_put}
use Rattle.java_heap.proofs.laws.reference_laws.Goals as goal

pub returns-clause-added : goal.returns-clause-added
returns-clause-added c old new object n refer refers adds = subst (λ (heap : HeapValue). AllReferThere heap) (sym adds.after) (references_added old object refer refers)

pub returns-clause-fields : goal.returns-clause-fields
returns-clause-fields c heap n place value refer names =
    references_changed heap n _ refer (λ o refers. record { values = field_put heap place value o.content names refers.values; side = refers.side })

pub returns-clause-elements : goal.returns-clause-elements
returns-clause-elements c heap n place value refer names =
    references_changed heap n _ refer (λ o refers. record { values = elem_put heap place value o.content names refers.values; side = refers.side })

pub returns-clause-sides : goal.returns-clause-sides
returns-clause-sides c heap n side refer there =
    references_changed heap n _ refer (λ o refers. record { values = refers.values; side = there })

pub returns-clause-texts : goal.returns-clause-texts
returns-clause-texts c heap n units refer =
    references_changed heap n _ refer (λ o refers. record { values = units_put heap units o.content refers.values; side = refers.side })
