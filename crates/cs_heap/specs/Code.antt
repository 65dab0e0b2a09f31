-- The code of a memory, by which a proof tells one from another: that of its parts.
use Rattle.std.specs.Prelude.{ℕ, Bool, List, refl}
use Rattle.std.specs.Coded.{Coded, code_by, coded×, coded_bool, coded_list, coded_ℕ}
use Rattle.std.specs.Ordering.{nat_cmp}
use Rattle.std.specs.FinSet.{FinSet, code}
use Rattle.cs_heap.specs.Object.{Memory, Object}

abbrev pub object_code : Coded Object
object_code =
    code_by (ℕ × (ℕ × (ℕ × (ℕ × (ℕ × List ℕ))))) (coded× coded_ℕ (coded× coded_ℕ (coded× coded_ℕ (coded× coded_ℕ (coded× coded_ℕ (coded_list coded_ℕ))))))
    (λ x. (x.class, (x.flags.0, (x.format, (x.hash, (x.birth, x.words))))))
    (λ p. record { class = p.0; flags = record { 0 = p.1.0 }; format = p.1.1.0; hash = p.1.1.1.0; birth = p.1.1.1.1.0; words = p.1.1.1.1.1 })
    (λ _. refl)

abbrev pub memory_code : Coded Memory
memory_code =
    code_by (ℕ × (List Object × (FinSet nat_cmp × Bool))) (coded× coded_ℕ (coded× (coded_list object_code) (coded× (code coded_ℕ) coded_bool)))
    (λ m. (m.limit, (m.objects, (m.watched, m.dirty))))
    (λ p. record { limit = p.0; objects = p.1.0; watched = p.1.1.0; dirty = p.1.1.1 })
    (λ _. refl)
