-- What the words that a world answers say of the place where the machine stands.
use Rattle.std.proofs.Common.{◌≡◌, ℕ, Bool, true, false, refl, sym, ap, subst, ◌∙◌, Option, Some, None, List}
use Rattle.std.specs.Prelude.{option_map, IsSome, IfSome}
use Rattle.cs_word.specs.declared.Oop.{Oop}
use Rattle.cs_word.specs.declared.Kind.{Kind}
use Rattle.cs_word.specs.declared.Kind.TheVariants as kind
use Rattle.cs_word.specs.Word.{kind_of, word_of}
use Rattle.cs_heap.specs.Object.{Object, Memory, is_object}
use Rattle.cs_heap.specs.Object as object
use Rattle.cs_classes.specs.Meaning.{ref_of, ref_of_kind}
use Rattle.cs_classes.specs.Sound.{is_reference, is_reference_kind}
use Rattle.cs_model.specs.Ref.{Ref, named_object, same_ref}
use Rattle.cs_model.specs.State.{Kept, active_process, is_nil}
use Rattle.cs_model.specs.Operation.{nil_of}
use Rattle.cs_model.specs.Read.{IsRunning, active_context, pc_of}
use Rattle.cs_model.specs.Due.{is_idle, is_idle_at}
use Rattle.cs_model.specs.Report.{place_of, place_at, no_place}
use Rattle.cs_acts.specs.Names.{Store, IsNamed, Names, NamesOption, name_of}

-- ---- the birth that a word names

kind_is : (w a : ℕ) (k : Kind) → k ≡ kind_of w → word_of k ≡ w → k ≡ kind.Object a → kind_of w ≡ kind.Object w
kind_is w a k e word is = let same : a ≡ w = sym (ap word_of is) ∙ word in sym e ∙ is ∙ ap (λ (n : ℕ). kind.Object n) same

pub object_is : (s : Store) (h : Memory) (o : Oop) (a : ℕ) (k : Kind) → h ≡ s.memory → IsNamed s o → k ≡ kind_of o.0 → word_of k ≡ o.0 → k ≡ kind.Object a → is_object h.objects o.0 ≡ true
unfolding is_reference
object_is s h o a k there named e word is =
    ap (λ (m : Memory). is_object m.objects o.0) there ∙ subst (λ (k : Kind). is_reference_kind s.memory.objects k ≡ true) (kind_is o.0 a k e word is) named

pub object_birth : (s : Store) (h : Memory) (o : Oop) (a b : ℕ) (k : Kind) → h ≡ s.memory → k ≡ kind_of o.0 → word_of k ≡ o.0 → k ≡ kind.Object a → b ≡ object.birth_at h.objects o.0
    → Some b ≡ named_object (name_of s o)
unfolding ref_of
object_birth s h o a b k there e word is at =
    ap Some at ∙ ap (λ (m : Memory). Some (object.birth_at m.objects o.0)) there ∙ sym (ap (λ (k : Kind). named_object (ref_of_kind s.memory.objects k)) (kind_is o.0 a k e word is))

no_birth_of : (os : List Object) (k : Kind) → ((a : ℕ) → k ≡ kind.Object a → ⊥) → named_object (ref_of_kind os k) ≡ None
no_birth_of os (kind.Small value) h = refl
no_birth_of os (kind.Character code) h = refl
no_birth_of os (kind.Object a) h = absurd (h a refl)
no_birth_of os (kind.Link word) h = refl

pub no_birth : (s : Store) (o : Oop) (k : Kind) → k ≡ kind_of o.0 → ((a : ℕ) → k ≡ kind.Object a → ⊥) → None ≡ named_object (name_of s o)
unfolding ref_of
no_birth s o k e h = sym (no_birth_of s.memory.objects k h) ∙ ap (λ (k : Kind). named_object (ref_of_kind s.memory.objects k)) e

-- ---- whether a process is active

pub no_process_idle : (s : Store) (k : Kept) (o : Option Oop) → o ≡ None → NamesOption s o (active_process k) → is_idle k ≡ false
unfolding is_idle
no_process_idle s k o e named = ap (is_idle_at k) (sym named.is ∙ ap (option_map (λ (w : Oop). name_of s w)) e)

pub process_idle : (s : Store) (k : Kept) (o : Option Oop) (p nil : Oop) (b : Bool) → o ≡ Some p → NamesOption s o (active_process k) → Names s nil (nil_of k)
    → b ≡ same_ref (name_of s p) (name_of s nil) → b ≡ is_idle k
unfolding is_idle
process_idle s k o p nil b e named at_nil same =
    same ∙ ap (same_ref (name_of s p)) at_nil.is ∙ ap (is_idle_at k) (ap (option_map (λ (w : Oop). name_of s w)) (sym e) ∙ named.is)

pub process_named : (s : Store) (k : Kept) (o : Option Oop) (p : Oop) → o ≡ Some p → NamesOption s o (active_process k) → IsNamed s p
process_named s k o p e named = subst (λ (x : Option Oop). IfSome x (λ w. IsNamed s w)) e named.sound

-- ---- the place

idle_at : (k : Kept) (o : Option Ref) → is_idle_at k o ≡ true → place_at k o ≡ no_place
idle_at k None h = refl
idle_at k (Some p) h = rw h refl

pub idle_place : (k : Kept) → is_idle k ≡ true → place_of k ≡ no_place
unfolding is_idle place_of
idle_place k h = idle_at k (active_process k) h

pub no_process_place : (s : Store) (k : Kept) (o : Option Oop) → o ≡ None → NamesOption s o (active_process k) → place_of k ≡ no_place
unfolding place_of
no_process_place s k o e named = ap (place_at k) (sym named.is ∙ ap (option_map (λ (w : Oop). name_of s w)) e)

place_active : (k : Kept) (p : Ref) → is_nil k p ≡ false → place_at k (Some p) ≡ record { process = named_object p; context = k.rest.active; pc = (active_context k).pc }
place_active k p h = rw h refl

pub process_place : (s : Store) (k : Kept) (o : Option Oop) (p : Oop) (b c : Option ℕ) (pc : ℕ) → o ≡ Some p → NamesOption s o (active_process k) → is_idle k ≡ false → IsRunning k
    → b ≡ named_object (name_of s p) → k.rest.active ≡ c → pc ≡ pc_of k → place_of k ≡ record { process = b; context = c; pc = Some pc }
unfolding is_idle place_of
process_place s k o p b c pc e named idle running process context at =
    let is : active_process k ≡ Some (name_of s p) = sym named.is ∙ ap (option_map (λ (w : Oop). name_of s w)) e in
    let no : is_nil k (name_of s p) ≡ false = sym (ap (is_idle_at k) is) ∙ idle in
    let pc_is : (active_context k).pc ≡ Some pc = running.live ∙ ap Some (sym at) in
    let here : place_of k ≡ record { process = named_object (name_of s p); context = k.rest.active; pc = (active_context k).pc } = ap (place_at k) is ∙ place_active k (name_of s p) no in
    here ∙ ap (λ (q : Option ℕ). record { process = q; context = k.rest.active; pc = (active_context k).pc }) (sym process)
    ∙ ap (λ (q : Option ℕ). record { process = b; context = q; pc = (active_context k).pc }) context
    ∙ ap (λ (q : Option ℕ). record { process = b; context = c; pc = q }) pc_is

pub active_there : (k : Kept) (o : Option ℕ) → o ≡ k.rest.active → IsRunning k → IsSome o
active_there k o e running = subst (λ (x : Option ℕ). IsSome x) (sym (e ∙ running.known)) refl
