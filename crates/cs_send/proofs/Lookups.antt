-- A lookup in the heap of a world, in terms of its state.
use Rattle.std.proofs.Common.{◌≡◌, Bool, true, false, refl, sym, subst, ◌∙◌}
use Rattle.std.specs.Prelude.{◌&&◌}
use Rattle.cs_word.specs.declared.Oop.{Oop}
use Rattle.cs_heap.specs.Format.{is_code}
use Rattle.cs_heap.specs.Object.{Memory, format_at, is_object}
use Rattle.cs_classes.specs.Meaning.{ref_of}
use Rattle.cs_classes.proofs.Refs.{is_reference-object}
use Rattle.cs_model.specs.State.{Kept}
use Rattle.cs_model.specs.Lookup.{lookup}
use Rattle.cs_lookup.specs.declared.Found.{Found}
use Rattle.cs_lookup.specs.declared.Found.TheVariants.{Method, Missing, Loop}
use Rattle.cs_lookup.specs.Found.{FindsMethod, HasObjects, sought_of}
use Rattle.cs_acts.specs.Names.{Store, IsNamed, name_of}
use Rattle.cs_acts.specs.Ready.{Holds}
use Rattle.cs_acts.proofs.Lookups.{heap_state, lookup-held}
use Rattle.cs_acts.proofs.Named.{method_read}
use Rattle.cs_send.specs.Resolved.{LooksUpMethod}

pub found_in_state : (s : Store) (k : Kept) (h : Memory) (class selector : Oop) (f : Found) → h ≡ s.memory → Holds s k
    → ((j : Kept) → HasObjects h.objects j → sought_of h.objects f ≡ lookup j (ref_of h.objects class.0) (ref_of h.objects selector.0))
    → sought_of s.memory.objects f ≡ lookup k (name_of s class) (name_of s selector)
found_in_state s k h class selector f e holds found =
    subst (λ (m : Memory). ((j : Kept) → HasObjects m.objects j → sought_of m.objects f ≡ lookup j (ref_of m.objects class.0) (ref_of m.objects selector.0))) e found (heap_state s k) refl
    ∙ lookup-held s k (name_of s class) (name_of s selector) holds

first : (a b : Bool) → (a && b) ≡ true → a ≡ true
first true b h = refl
first false b h = h

pub found_method : (s : Store) (k : Kept) (h : Memory) (f : Found) → h ≡ s.memory → Holds s k → FindsMethod h.objects f → LooksUpMethod s k f
found_method s k h f e holds found = go f (subst (λ (m : Memory). FindsMethod m.objects f) e found)
  where
    go : (f : Found) → FindsMethod s.memory.objects f → LooksUpMethod s k f
    go (Method m) is =
        let named : IsNamed s m = is_reference-object s.memory.objects m.0 (first (is_object s.memory.objects m.0) (is_code (format_at s.memory.objects m.0)) is) in
        record { named = named; method = sym (method_read s k s.memory m refl holds named) ∙ is }
    go Missing is = tt
    go Loop is = tt
