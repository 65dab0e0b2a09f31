-- What is read of a heap, word by word and byte by byte.
use Rattle.std.proofs.Common.{◌≡◌, ℕ, zero, suc, ◌*◌, ◌/◌, ◌%◌, ◌<◌, true, refl, sym, ap, ◌∙◌, arith, Option, Some, None, List, [], ◌∷◌, length, drop, get_or}
use Rattle.std.specs.Prelude.{slice_index}
use Rattle.std.specs.Option.{option_map_or}
use Rattle.std.proofs.lemmas.List.{get_or_past}
use Rattle.cs_model.specs.Words.{byte_in, bytes_of_words}
use Rattle.cs_heap.specs.Object.{Object, byte_of, class_at, format_at, is_object, heap_object, slot_count_of, slot_of, words_at}
use Rattle.cs_classes.specs.Sound.{AreSoundObjects, IsSoundObject}
use Rattle.cs_classes.proofs.Heaps.{object_there}
use Rattle.cs_classes.proofs.Sounds.{sound_at}

-- the object at an address, and what is read of it
pub record There (os : List Object) (a : ℕ) : Type 0 where
  pub x : Object
  pub at : heap_object os a ≡ Some x
  pub sound : IsSoundObject os x
  pub class : class_at os a ≡ x.class
  pub format : format_at os a ≡ x.format
  pub count : slot_count_of os a ≡ length x.words
  pub slot : (i : ℕ) → slot_of os a i ≡ slice_index x.words i

pub there : (os : List Object) (a : ℕ) → AreSoundObjects os → is_object os a ≡ true → There os a
there os a sound h =
    let t = object_there os a h in
    record {
      x = t.0;
      at = t.1;
      sound = sound_at os a t.0 sound t.1;
      class = ap (λ (o : Option Object). option_map_or (λ (y : Object). y.class) o 0) t.1;
      format = ap (λ (o : Option Object). option_map_or (λ (y : Object). y.format) o 0) t.1;
      count = ap (λ (o : Option Object). option_map_or (λ (y : Object). length y.words) o 0) t.1;
      slot = λ i. ap (λ (o : Option Object). option_map_or (λ (y : Object). slice_index y.words i) o 0) t.1;
    }

-- ---- words

pub length-words_at : (os : List Object) (a : ℕ) → length (words_at os a) ≡ slot_count_of os a
length-words_at os a = go (heap_object os a)
  where
    go : (o : Option Object) → length (option_map_or (λ (x : Object). x.words) o []) ≡ option_map_or (λ (x : Object). length x.words) o 0
    go None = refl
    go (Some x) = refl

pub word_is : (os : List Object) (a i : ℕ) → slice_index (words_at os a) i ≡ slot_of os a i
word_is os a i = go (heap_object os a)
  where
    go : (o : Option Object) → slice_index (option_map_or (λ (x : Object). x.words) o []) i ≡ option_map_or (λ (x : Object). slice_index x.words i) o 0
    go None = get_or_past [] i 0 (omega arith)
    go (Some x) = refl

-- ---- bytes

pub length-bytes_of : (ws : List ℕ) → length (bytes_of_words ws) ≡ 4 * length ws
unfolding bytes_of_words
length-bytes_of [] = refl
length-bytes_of (w ∷ ws) = omega (arith, length-bytes_of ws)

-- byte i is in word i / 4
pub get_or-bytes_of : (ws : List ℕ) (i : ℕ) → i < 4 * length ws → get_or (bytes_of_words ws) i 0 ≡ byte_in (get_or ws (i / 4) 0) (i % 4)
unfolding bytes_of_words
get_or-bytes_of [] i h = absurd (omega (arith, h))
get_or-bytes_of (w ∷ ws) zero h = refl
get_or-bytes_of (w ∷ ws) (suc zero) h = refl
get_or-bytes_of (w ∷ ws) (suc (suc zero)) h = refl
get_or-bytes_of (w ∷ ws) (suc (suc (suc zero))) h = refl
get_or-bytes_of (w ∷ ws) (suc (suc (suc (suc i)))) h =
    get_or-bytes_of ws i (omega (arith, h)) ∙ ap (λ n. byte_in (get_or ws (i / 4) 0) n) rest ∙ ap (λ n. byte_in (get_or (w ∷ ws) n 0) ((suc (suc (suc (suc i)))) % 4)) word
  where
    word : suc (i / 4) ≡ suc (suc (suc (suc i))) / 4
    word = omega arith

    rest : i % 4 ≡ suc (suc (suc (suc i))) % 4
    rest = omega arith

pub length-bytes_at : (os : List Object) (a : ℕ) → length (bytes_of_words (words_at os a)) ≡ 4 * slot_count_of os a
length-bytes_at os a = omega (arith, length-bytes_of (words_at os a), length-words_at os a)

pub byte_is : (os : List Object) (a i : ℕ) → i < 4 * slot_count_of os a → get_or (bytes_of_words (words_at os a)) i 0 ≡ byte_of os a i
byte_is os a i h =
    get_or-bytes_of (words_at os a) i (omega (arith, h, length-words_at os a)) ∙ ap (λ w. byte_in w (i % 4)) (word_is os a (i / 4))

-- the bytes of the words behind some are those behind theirs
pub bytes_of-drop : (n : ℕ) (ws : List ℕ) → bytes_of_words (drop n ws) ≡ drop (4 * n) (bytes_of_words ws)
unfolding bytes_of_words
bytes_of-drop zero ws = refl
bytes_of-drop (suc n) [] = sym (none (4 * suc n) [] refl)
  where
    none : (k : ℕ) (es : List ℕ) → es ≡ [] → drop k es ≡ []
    none zero es e = e
    none (suc k) [] e = refl
    none (suc k) (x ∷ es) e = absurd (cc)
bytes_of-drop (suc n) (w ∷ ws) = bytes_of-drop n ws ∙ ap (λ (k : ℕ). drop k (bytes_of_words (w ∷ ws))) four
  where
    four : suc (suc (suc (suc (4 * n)))) ≡ 4 * suc n
    four = omega arith
