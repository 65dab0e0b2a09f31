-- The first three objects of a heap are nil, false and true.
use Rattle.std.proofs.Common.{◌≡◌, ℕ, ◌+◌, ◌<◌, ◌≤◌, true, false, refl, sym, ap, subst, ◌∙◌, arith, Option, Some, None, is_some, List, length}
use Rattle.std.specs.Prelude.{unwrap_or}
use Rattle.std.specs.Option.{option_map_or}
use Rattle.cs_word.specs.declared.Oop.{Oop}
use Rattle.cs_heap.specs.Object.{Memory, Object, address_of, is_object, next_of}
use Rattle.cs_heap.proofs.Laws.{address_of-below, index_of-address, next_of-address, object_at-address}
use Rattle.cs_classes.specs.Meaning.{nth_birth, ref_of}
use Rattle.cs_classes.specs.Sound.{is_reference}
use Rattle.cs_classes.proofs.Refs.{is_reference-object, ref_of-object}
use Rattle.cs_model.specs.Ref.{Ref}
use Rattle.cs_model.specs.Ref as ref
use Rattle.cs_model.specs.State.{Kept, Rest}
use Rattle.cs_model.specs.Number.{boolean}
use Rattle.cs_model.specs.Operation as operation
use Rattle.cs_acts.specs.Names.{Store, Names}
use Rattle.cs_acts.specs.Ready.{IsSound}

-- the object of an index
pub record IsNumber (os : List Object) (a j : ℕ) : Type 0 where
  pub address : address_of os j ≡ Some a

pub number_object : (os : List Object) (a j : ℕ) → IsNumber os a j → is_object os a ≡ true
number_object os a j n = ap is_some (index_of-address os a j n.address)

pub number_birth : (os : List Object) (a j : ℕ) → IsNumber os a j → ref_of os a ≡ ref.Obj (nth_birth os j)
number_birth os a j n =
    ref_of-object os a (number_object os a j n)
    ∙ ap (λ (o : Option Object). ref.Obj (option_map_or (λ x. x.birth) o 0)) (object_at-address os a j n.address)

pub number_named : (os : List Object) (a j : ℕ) → IsNumber os a j → is_reference os a ≡ true
number_named os a j n = is_reference-object os a (number_object os a j n)

pub next_number : (os : List Object) (a b j : ℕ) → IsNumber os a j → next_of os a ≡ Some b → IsNumber os b (j + 1)
next_number os a b j n e = record { address = sym (next_of-address os a j n.address) ∙ e }

pub has_next : (os : List Object) (a j : ℕ) → IsNumber os a j → j + 1 < length os → is_some (next_of os a) ≡ true
has_next os a j n h = ap is_some (next_of-address os a j n.address) ∙ address_of-below os (j + 1) h

-- nil is at the base
pub nil_number : (s : Store) (k : Kept) (h : Memory) → h ≡ s.memory → IsSound s k → IsNumber h.objects 65536 0
nil_number s k h e sound = subst (λ m. IsNumber m.objects 65536 0) (sym e) (record { address = go (address_of s.memory.objects 0) refl (address_of-below s.memory.objects 0 (omega (arith, sound.holds.whole.first))) })
  where
    go : (o : Option ℕ) → address_of s.memory.objects 0 ≡ o → is_some o ≡ true → address_of s.memory.objects 0 ≡ Some 65536
    go None f h = absurd (cc)
    go (Some a) f h = f ∙ ap Some (sym (ap (λ o. unwrap_or o 0) f) ∙ sound.holds.whole.nil)

pub three : (s : Store) (k : Kept) (h : Memory) → h ≡ s.memory → IsSound s k → 3 ≤ length h.objects
three s k h e sound = subst (λ m. 3 ≤ length m.objects) (sym e) sound.holds.whole.first

-- what it refers to
pub number_names : (s : Store) (k : Kept) (h : Memory) (o : Oop) (j i : ℕ) → h ≡ s.memory → IsNumber h.objects o.0 j → nth_birth s.memory.objects j ≡ i → Names s o (ref.Obj i)
number_names s k h o j i e n birth =
    let m : IsNumber s.memory.objects o.0 j = subst (λ m. IsNumber m.objects o.0 j) e n in
    record { sound = number_named s.memory.objects o.0 j m; is = number_birth s.memory.objects o.0 j m ∙ ap ref.Obj birth }

pub nil_names : (s : Store) (k : Kept) (o : Oop) → IsSound s k → o.0 ≡ 65536 → Names s o (operation.nil_of k)
nil_names s k o sound e = number_names s k s.memory o 0 k.rest.nil refl (subst (λ a. IsNumber s.memory.objects a 0) (sym e) (nil_number s k s.memory refl sound)) (ap (λ (r : Rest). r.nil) sound.holds.rest)

pub false_names : (s : Store) (k : Kept) (h : Memory) (o : Oop) → h ≡ s.memory → IsSound s k → IsNumber h.objects o.0 1 → Names s o (boolean k false)
false_names s k h o e sound n = number_names s k h o 1 k.rest.false_ e n (ap (λ (r : Rest). r.false_) sound.holds.rest)

pub true_names : (s : Store) (k : Kept) (h : Memory) (o : Oop) → h ≡ s.memory → IsSound s k → IsNumber h.objects o.0 2 → Names s o (boolean k true)
true_names s k h o e sound n = number_names s k h o 2 k.rest.true_ e n (ap (λ (r : Rest). r.true_) sound.holds.rest)
