-- The forms of lines: those with too few or too many words have none, and the others have one as their parts are there.
use Rattle.std.proofs.Common.{◌≡◌, ℕ, ◌+◌, ◌<◌, ◌≤◌, List, [], ◌∷◌, None, Some, Bool, true, false, option_map, if◌then◌else◌, refl, arith, length, map, ◌++◌, get_or, drop, take, ◌-◌, drop-cons, add-one, suc, ap, sym, subst}
use Rattle.std.specs.Prelude.{ℤ, Option, option_and_then}
use Rattle.std.specs.Borrow.{Bor}
use Rattle.cs_model.specs.BuilderText.{Mention, Special, all_of, method_line, process_line, bytes_form, class_form, method_form, object_form, process_form, special_form}
use Rattle.std.proofs.lemmas.Grind.{common_steps}
use Rattle.cs_build.specs.declared.form.Mention as code
use Rattle.cs_build.specs.declared.form.Form as code_form
use Rattle.cs_build.specs.Meaning.{mention_by}
use Rattle.cs_build.specs.Narrow.{Reads, ReadsMention, narrow, narrow_form, narrow_mention, word_texts}

pub class_form-short : (words : List (Bor (List ℕ))) → length words < 4 → class_form (word_texts words) ≡ None
class_form-short ([]) h = refl
class_form-short (a ∷ []) h = refl
class_form-short (a ∷ b ∷ []) h = refl
class_form-short (a ∷ b ∷ c ∷ []) h = refl
class_form-short (a ∷ b ∷ c ∷ d ∷ words) h = absurd (omega (arith, h))

pub class_form-long : (words : List (Bor (List ℕ))) → 5 ≤ length words → class_form (word_texts words) ≡ None
class_form-long ([]) h = absurd (omega (arith, h))
class_form-long (a ∷ []) h = absurd (omega (arith, h))
class_form-long (a ∷ b ∷ []) h = absurd (omega (arith, h))
class_form-long (a ∷ b ∷ c ∷ []) h = absurd (omega (arith, h))
class_form-long (a ∷ b ∷ c ∷ d ∷ []) h = absurd (omega (arith, h))
class_form-long (a ∷ b ∷ c ∷ d ∷ e ∷ words) h = refl

pub process_form-short : (words : List (Bor (List ℕ))) → length words < 5 → process_form (word_texts words) ≡ None
process_form-short ([]) h = refl
process_form-short (a ∷ []) h = refl
process_form-short (a ∷ b ∷ []) h = refl
process_form-short (a ∷ b ∷ c ∷ []) h = refl
process_form-short (a ∷ b ∷ c ∷ d ∷ []) h = refl
process_form-short (a ∷ b ∷ c ∷ d ∷ e ∷ words) h = absurd (omega (arith, h))

pub process_form-long : (words : List (Bor (List ℕ))) → 6 ≤ length words → process_form (word_texts words) ≡ None
process_form-long ([]) h = absurd (omega (arith, h))
process_form-long (a ∷ []) h = absurd (omega (arith, h))
process_form-long (a ∷ b ∷ []) h = absurd (omega (arith, h))
process_form-long (a ∷ b ∷ c ∷ []) h = absurd (omega (arith, h))
process_form-long (a ∷ b ∷ c ∷ d ∷ []) h = absurd (omega (arith, h))
process_form-long (a ∷ b ∷ c ∷ d ∷ e ∷ []) h = absurd (omega (arith, h))
process_form-long (a ∷ b ∷ c ∷ d ∷ e ∷ f ∷ words) h = refl

pub special_form-short : (words : List (Bor (List ℕ))) → length words < 2 → special_form (word_texts words) ≡ None
special_form-short ([]) h = refl
special_form-short (a ∷ []) h = refl
special_form-short (a ∷ b ∷ words) h = absurd (omega (arith, h))

pub special_form-long : (words : List (Bor (List ℕ))) → 3 ≤ length words → special_form (word_texts words) ≡ None
special_form-long ([]) h = absurd (omega (arith, h))
special_form-long (a ∷ []) h = absurd (omega (arith, h))
special_form-long (a ∷ b ∷ []) h = absurd (omega (arith, h))
special_form-long (a ∷ b ∷ c ∷ words) h = refl

pub bytes_form-short : (words : List (Bor (List ℕ))) → length words < 3 → bytes_form (word_texts words) ≡ None
bytes_form-short ([]) h = refl
bytes_form-short (a ∷ []) h = refl
bytes_form-short (a ∷ b ∷ []) h = refl
bytes_form-short (a ∷ b ∷ c ∷ words) h = absurd (omega (arith, h))

pub bytes_form-long : (words : List (Bor (List ℕ))) → 4 ≤ length words → bytes_form (word_texts words) ≡ None
bytes_form-long ([]) h = absurd (omega (arith, h))
bytes_form-long (a ∷ []) h = absurd (omega (arith, h))
bytes_form-long (a ∷ b ∷ []) h = absurd (omega (arith, h))
bytes_form-long (a ∷ b ∷ c ∷ []) h = absurd (omega (arith, h))
bytes_form-long (a ∷ b ∷ c ∷ d ∷ words) h = refl

pub method_form-short : (words : List (Bor (List ℕ))) → length words < 4 → method_form (word_texts words) ≡ None
method_form-short ([]) h = refl
method_form-short (a ∷ []) h = refl
method_form-short (a ∷ b ∷ []) h = refl
method_form-short (a ∷ b ∷ c ∷ []) h = refl
method_form-short (a ∷ b ∷ c ∷ d ∷ words) h = absurd (omega (arith, h))

pub object_form-short : (words : List (Bor (List ℕ))) → length words < 2 → object_form (word_texts words) ≡ None
object_form-short ([]) h = refl
object_form-short (a ∷ []) h = refl
object_form-short (a ∷ b ∷ words) h = absurd (omega (arith, h))

-- the first four words and those behind them
pub method_form-four : (r : Option code_form.Form) (words rest : List (Bor (List ℕ))) (d : Bor (List ℕ)) → 4 ≤ length words
    → Reads r (method_form ((get_or words 0 d).now ∷ (get_or words 1 d).now ∷ (get_or words 2 d).now ∷ (get_or words 3 d).now ∷ word_texts rest))
    → rest ≡ drop 4 words → Reads r (method_form (word_texts words))
method_form-four r ([]) rest d h e is = absurd (omega (arith, h))
method_form-four r (a ∷ []) rest d h e is = absurd (omega (arith, h))
method_form-four r (a ∷ b ∷ []) rest d h e is = absurd (omega (arith, h))
method_form-four r (a ∷ b ∷ c ∷ []) rest d h e is = absurd (omega (arith, h))
method_form-four r (w ∷ x ∷ y ∷ z ∷ words) rest d h e is =
    subst (λ rest. Reads r (method_form (w.now ∷ x.now ∷ y.now ∷ z.now ∷ word_texts rest))) is e

-- one slot more, or none
slots-tail : (slots : List code.Mention) (slot : code.Mention) (m : Mention) (rest : List Mention) → mention_by slot ≡ m
    → map mention_by slots ++ (m ∷ rest) ≡ map mention_by (slots ++ slot ∷ []) ++ rest
slots-tail [] slot m rest e = ap (λ n. n ∷ rest) (sym e)
slots-tail (s ∷ slots) slot m rest e = ap (λ l. mention_by s ∷ l) (slots-tail slots slot m rest e)

slots-more : (o : Option Mention) (rest : Option (List Mention)) (slots : List code.Mention) (slot : code.Mention) → ReadsMention (Some slot) o
    → option_map (λ rest. map mention_by slots ++ map narrow_mention rest) (option_and_then (λ x. option_map (λ xs. x ∷ xs) rest) o)
    ≡ option_map (λ rest. map mention_by (slots ++ slot ∷ []) ++ map narrow_mention rest) rest
slots-more None rest slots slot e = cc
slots-more (Some x) None slots slot e = refl
slots-more (Some x) (Some xs) slots slot e =
    let is : mention_by slot ≡ narrow_mention x = cc in
    ap (λ l. Some l) (slots-tail slots slot (narrow_mention x) (map narrow_mention xs) is)

pub slots-step : (read : List ℕ → Option Mention) (words : List (Bor (List ℕ))) (i : ℕ) (d : Bor (List ℕ)) (slots : List code.Mention) (slot : code.Mention)
    → i < length words → ReadsMention (Some slot) (read (get_or words i d).now)
    → option_map (λ rest. map mention_by slots ++ map narrow_mention rest) (all_of read (word_texts (drop i words)))
    ≡ option_map (λ rest. map mention_by (slots ++ slot ∷ []) ++ map narrow_mention rest) (all_of read (word_texts (drop (i + 1) words)))
slots-step read words i d slots slot h e = rw (add-one, drop-cons words i d) (slots-more (read (get_or words i d).now) (all_of read (word_texts (drop (suc i) words))) slots slot e)

slots-end : (o : Option Mention) (rest : Option (List Mention)) → ReadsMention None o → option_and_then (λ x. option_map (λ xs. x ∷ xs) rest) o ≡ None
slots-end None rest e = refl
slots-end (Some x) rest e = cc

pub slots-none : (read : List ℕ → Option Mention) (words : List (Bor (List ℕ))) (i : ℕ) (d : Bor (List ℕ)) (slots : List code.Mention)
    → i < length words → ReadsMention None (read (get_or words i d).now)
    → option_map (λ rest. map mention_by slots ++ map narrow_mention rest) (all_of read (word_texts (drop i words))) ≡ None
slots-none read words i d slots h e = rw (drop-cons words i d, slots-end (read (get_or words i d).now) (all_of read (word_texts (drop (suc i) words))) e) refl

-- one of the parts of a form isn't there
pub special-none : (k : Option ℤ) (x : Option Mention) → ReadsMention None x
    → option_map narrow_form (option_and_then (λ k. option_map (λ x. Special k x) x) k) ≡ None
special-none None x h = refl
special-none (Some k) None h = refl
special-none (Some k) (Some x) h = cc

pub special-some : (k : Option ℤ) (x : Option Mention) (place n : ℤ) (value : code.Mention) → Some place ≡ option_map narrow k
    → ReadsMention (Some value) x → n ≡ place
    → Some (Special n (mention_by value)) ≡ option_map narrow_form (option_and_then (λ k. option_map (λ x. Special k x) x) k)
special-some None x place n value e h is = cc
special-some (Some k) None place n value e h is = cc
special-some (Some k) (Some x) place n value e h is = cc

pub process-none : (p : Option ℤ) (x : Option Mention) (are : Bool) (name class selector : List ℕ) → ReadsMention None x
    → option_map narrow_form (option_and_then (λ p. option_and_then (λ x.
    if are then Some (process_line name p class selector x) else None) x) p) ≡ None
process-none None x are name class selector h = refl
process-none (Some p) None are name class selector h = refl
process-none (Some p) (Some x) are name class selector h = cc

pub process-unnamed : (p : Option ℤ) (x : Option Mention) (are : Bool) (name class selector : List ℕ) → are ≡ false
    → option_map narrow_form (option_and_then (λ p. option_and_then (λ x.
    if are then Some (process_line name p class selector x) else None) x) p) ≡ None
process-unnamed None x are name class selector e = refl
process-unnamed (Some p) None are name class selector e = refl
process-unnamed (Some p) (Some x) are name class selector e = rw e refl

pub process-some : (p : Option ℤ) (x : Option Mention) (are : Bool) (name class selector : List ℕ) (priority n : ℤ) (receiver : code.Mention)
    → Some priority ≡ option_map narrow p → ReadsMention (Some receiver) x → are ≡ true → n ≡ priority
    → Some (process_line name n class selector (mention_by receiver)) ≡ option_map narrow_form (option_and_then (λ p. option_and_then (λ x.
    if are then Some (process_line name p class selector x) else None) x) p)
process-some None x are name class selector priority n receiver e h is m = cc
process-some (Some p) None are name class selector priority n receiver e h is m = cc
process-some (Some p) (Some x) are name class selector priority n receiver e h is m = rw is cc

pub method-none : (a t : Option ℤ) (p : Option (Option ℤ)) (is large : Bool) (class selector : List ℕ) → None ≡ option_map (option_map narrow) p
    → option_map narrow_form (option_and_then (λ a. option_and_then (λ t. option_and_then (λ p.
    if is then Some (method_line class selector a t large p) else None) p) t) a) ≡ None
method-none None t p is large class selector h = refl
method-none (Some a) None p is large class selector h = refl
method-none (Some a) (Some t) None is large class selector h = refl
method-none (Some a) (Some t) (Some p) is large class selector h = cc

pub method-some : (a t : Option ℤ) (p : Option (Option ℤ)) (is large l : Bool) (class selector : List ℕ) (args temps m n : ℤ) (prim : Option ℤ)
    → Some args ≡ option_map narrow a → Some temps ≡ option_map narrow t → Some prim ≡ option_map (option_map narrow) p → is ≡ true
    → l ≡ large → m ≡ args → n ≡ temps
    → Some (method_line class selector m n l prim) ≡ option_map narrow_form (option_and_then (λ a. option_and_then (λ t. option_and_then (λ p.
    if is then Some (method_line class selector a t large p) else None) p) t) a)
method-some None t p is large l class selector args temps m n prim d e f h i j k = cc
method-some (Some a) None p is large l class selector args temps m n prim d e f h i j k = cc
method-some (Some a) (Some t) None is large l class selector args temps m n prim d e f h i j k = cc
method-some (Some a) (Some t) (Some p) is large l class selector args temps m n prim d e f h i j k = rw h cc

-- what stands behind some words is all that is left
pub rest_of_words : (words : List (Bor (List ℕ))) (n : ℕ) → take (length words - n) (drop n words) ≡ drop n words
rest_of_words words n = grind (arith, common_steps)

pub ruleset lengths = (method_form-short, object_form-short)
