-- A frame that changes in its pc or its stack: it fits as before, and its context changes alike.
use Rattle.std.proofs.Common.{◌≡◌, ℕ, ◌-◌, ◌≤◌, true, false, refl, sym, ap, ◌∙◌, List, [], ◌∷◌, ◌++◌, length, map, take}
use Rattle.std.specs.Prelude.{slice_set}
use Rattle.std.specs.List.{AllPass}
use Rattle.std.proofs.lemmas.List.{length-map, map-set, map_push}
use Rattle.std.specs.List.{take-map}
use Rattle.cs_word.specs.Word.{kind_of, natural_of_word}
use Rattle.cs_word.proofs.Words.{kind_of-link}
use Rattle.cs_heap.specs.Object.{Object}
use Rattle.cs_classes.specs.Meaning.{meaning_at, ref_of}
use Rattle.cs_classes.specs.Sound.{is_reference, is_reference_kind}
use Rattle.cs_frame.specs.Frame.{Frame, IsValue}
use Rattle.cs_frame.specs.Frame as frame
use Rattle.cs_marriage.specs.Agree.{frame_size}
use Rattle.cs_model.specs.Obj as obj
use Rattle.cs_model.specs.Context.{lies_if_index}
use Rattle.cs_stack.specs.View.{frame_context}
use Rattle.cs_stack.specs.Good.{FrameFits}

-- a reference is no link
pub reference_value : (os : List Object) (w : ℕ) → is_reference os w ≡ true → IsValue w
unfolding is_reference
reference_value os w named link = let no : is_reference_kind os (kind_of w) ≡ false = ap (is_reference_kind os) (kind_of-link w link) in absurd (cc)

module _ (os : List Object) (next : ℕ) (f : Frame) where
  pub fits_stack : (xs : List ℕ) (fs : List Frame) → FrameFits os next f fs → AllPass (is_reference os) xs → length xs ≤ frame_size os f → FrameFits os next (frame.with_values xs f) fs
  fits_stack xs [] fits all few = record {
    names = record { closure = fits.names.closure; receiver = fits.names.receiver; stack = all };
    lies = fits.lies;
    fits = few;
    stands = fits.stands;
    room = fits.room;
    birth = fits.birth;
    apart = fits.apart;
    sender = fits.sender;
    alone = fits.alone;
  }
  fits_stack xs (g ∷ gs) fits all few = record {
    names = record { closure = fits.names.closure; receiver = fits.names.receiver; stack = all };
    lies = fits.lies;
    fits = few;
    stands = fits.stands;
    room = fits.room;
    birth = fits.birth;
    apart = fits.apart;
    sender = fits.sender;
    alone = fits.alone;
  }

  pub fits_pc : (v : ℕ) (fs : List Frame) → FrameFits os next f fs → lies_if_index (meaning_at os f.method) (natural_of_word v) ≡ true → FrameFits os next (frame.with_saved_pc v f) fs
  fits_pc v [] fits lies = record {
    names = record { closure = fits.names.closure; receiver = fits.names.receiver; stack = fits.names.stack };
    lies = lies;
    fits = fits.fits;
    stands = fits.stands;
    room = fits.room;
    birth = fits.birth;
    apart = fits.apart;
    sender = fits.sender;
    alone = fits.alone;
  }
  fits_pc v (g ∷ gs) fits lies = record {
    names = record { closure = fits.names.closure; receiver = fits.names.receiver; stack = fits.names.stack };
    lies = lies;
    fits = fits.fits;
    stands = fits.stands;
    room = fits.room;
    birth = fits.birth;
    apart = fits.apart;
    sender = fits.sender;
    alone = fits.alone;
  }

  -- ---- contexts

  pub stack_is : (fs : List Frame) → (frame_context os f fs).stack ≡ map (ref_of os) f.stack
  unfolding frame_context
  stack_is fs = refl

  pub context_stack : (xs : List ℕ) (fs : List Frame) → frame_context os (frame.with_values xs f) fs ≡ obj.with_stack (map (ref_of os) xs) (frame_context os f fs)
  unfolding frame_context
  context_stack xs [] = refl
  context_stack xs (g ∷ gs) = refl

  pub context_pc : (v : ℕ) (fs : List Frame) → frame_context os (frame.with_saved_pc v f) fs ≡ obj.with_pc (natural_of_word v) (frame_context os f fs)
  unfolding frame_context
  context_pc v [] = refl
  context_pc v (g ∷ gs) = refl

  along : (fs : List Frame) (xs : List ℕ) (ys : List _) → map (ref_of os) xs ≡ ys → frame_context os (frame.with_values xs f) fs ≡ obj.with_stack ys (frame_context os f fs)
  along fs xs ys e = context_stack xs fs ∙ ap (λ zs. obj.with_stack zs (frame_context os f fs)) e

  pub context_pushed : (v : ℕ) (fs : List Frame) → frame_context os (frame.value_pushed v f) fs ≡ obj.pushed (ref_of os v) (frame_context os f fs)
  context_pushed v fs = along fs (f.stack ++ v ∷ []) _ (map_push (ref_of os) f.stack v ∙ ap (λ zs. zs ++ ref_of os v ∷ []) (sym (stack_is fs)))

  pub context_popped : (fs : List Frame) → frame_context os (frame.top_popped f) fs ≡ obj.popped 1 (frame_context os f fs)
  context_popped fs =
      let taken : map (ref_of os) (take (length f.stack - 1) f.stack) ≡ take (length (map (ref_of os) f.stack) - 1) (map (ref_of os) f.stack) =
      sym (take-map (ref_of os) (length f.stack - 1) f.stack) ∙ ap (λ n. take (n - 1) (map (ref_of os) f.stack)) (sym (length-map f.stack (ref_of os))) in
      along fs (take (length f.stack - 1) f.stack) _ (taken ∙ ap (λ zs. take (length zs - 1) zs) (sym (stack_is fs)))

  pub context_stored : (i v : ℕ) (fs : List Frame) → frame_context os (frame.with_value i v f) fs ≡ obj.stored i (ref_of os v) (frame_context os f fs)
  context_stored i v fs = along fs (slice_set f.stack i v) _ (map-set (ref_of os) f.stack i v ∙ ap (λ zs. slice_set zs i (ref_of os v)) (sym (stack_is fs)))
