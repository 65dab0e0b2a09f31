-- What a table has at each name after one was noted, and the places of names in lists.
use Rattle.std.proofs.Common.{◌≡◌, ℕ, suc, ◌+◌, Bool, true, false, cond, List, [], ◌∷◌, ◌++◌, length, Some, None, Option, refl, ap, sym, ◌∙◌, arith, if◌then◌else◌, nat_lt, Bor}
use Rattle.std.specs.Prelude.{position, option_map, ◌||◌, not, fold}
use Rattle.std.specs.Option.{option_or}
use Rattle.std.specs.List.{list_any, position_or_len}
use Rattle.std.specs.Str.{bytes_eq}
use Rattle.std.proofs.lemmas.List.{map_push}
use Rattle.std.proofs.lemmas.List.Sums.{fold-append}
use Rattle.std.proofs.lemmas.Slice.Eq.{bytes_eq-Decides}
use Rattle.std.proofs.lemmas.Bool.Decides.{nat_tests, same_from_decides, Decides-like}
use Rattle.cs_model.specs.Builder.{with_new}
use Rattle.cs_model.specs.BuilderText.{ClassLine}
use Rattle.cs_build.specs.Numbered.{plain_names, noted, first_at, placed, mentioned}

pub bytes_eq_self : (a : List ℕ) → bytes_eq a a ≡ true
bytes_eq_self a = (bytes_eq-Decides a a).1 refl

pub bytes_eq_turned : (a b : List ℕ) → bytes_eq a b ≡ bytes_eq b a
bytes_eq_turned a b = same_from_decides {P = a ≡ b} (bytes_eq a b) (bytes_eq b a) (bytes_eq-Decides a b)
    (Decides-like {P = b ≡ a} {Q = a ≡ b} (bytes_eq b a) (λ e. sym e) (λ e. sym e) (bytes_eq-Decides b a))

pub or_none : {X : Type 0} (o : Option X) → option_or o None ≡ o
or_none (Some x) = refl
or_none None = refl

-- a name that wasn't there
pub note_new : (f : List ℕ → Option ℕ) (name : List ℕ) (n : ℕ) (q : List ℕ) → f name ≡ None
    → cond (bytes_eq name q) (Some n) (f q) ≡ option_or (f q) (noted name n q)
note_new f name n q none = go (bytes_eq name q) refl
  where
    go : (b : Bool) → bytes_eq name q ≡ b → cond b (Some n) (f q) ≡ option_or (f q) (noted name n q)
    go true e =
        let same : name ≡ q = (bytes_eq-Decides name q).0 e in
        let here : f q ≡ None = ap f (sym same) ∙ none in
        let turned : bytes_eq q name ≡ true = bytes_eq_turned q name ∙ e in
        sym (ap (λ o. option_or o (noted name n q)) here ∙ ap (λ c. if c then Some n else None) turned)
    go false e =
        let turned : bytes_eq q name ≡ false = bytes_eq_turned q name ∙ e in
        sym (ap (λ c. option_or (f q) (if c then Some n else None)) turned ∙ or_none (f q))

-- ---- symbols

pub any_name : (k : Bor (List ℕ)) (ks : List (Bor (List ℕ))) → list_any (λ x. bytes_eq k.now x.now) ks ≡ list_any (bytes_eq k.now) (plain_names ks)
any_name k [] = refl
any_name k (x ∷ ks) = ap (λ b. bytes_eq k.now x.now || b) (any_name k ks)

pub mention_new : (k : Bor (List ℕ)) (ks : List (Bor (List ℕ)))
    → plain_names (if list_any (λ x. bytes_eq k.now x.now) ks then ks else ks ++ k ∷ []) ≡ with_new (plain_names ks) k.now
mention_new k ks = go (list_any (λ x. bytes_eq k.now x.now) ks) ∙ ap (λ b. if b then plain_names ks else plain_names ks ++ k.now ∷ []) (any_name k ks)
  where
    go : (b : Bool) → plain_names (if b then ks else ks ++ k ∷ []) ≡ (if b then plain_names ks else plain_names ks ++ k.now ∷ [])
    go true = refl
    go false = map_push (λ x. x.now) ks k

pub mentioned_none : (names : List (List ℕ)) → mentioned names [] ≡ names
unfolding mentioned
mentioned_none names = refl

pub mentioned_one : (names : List (List ℕ)) (name : List ℕ) → mentioned names (name ∷ []) ≡ with_new names name
unfolding mentioned
mentioned_one names name = refl

-- one name more
pub mentioned_cons : (new old : List (List ℕ)) (name : List ℕ) (more : List (List ℕ)) → new ≡ with_new old name
    → mentioned new more ≡ mentioned old (name ∷ more)
unfolding mentioned
mentioned_cons new old name more e = ap (λ names. fold with_new names more) e

-- some names more
pub mentioned_more : (new old some more : List (List ℕ)) → new ≡ mentioned old some → mentioned new more ≡ mentioned old (some ++ more)
unfolding mentioned
mentioned_more new old some more e = ap (λ names. fold with_new names more) e ∙ sym (fold-append with_new old some more)

-- ---- places

position_cons : {X : Type 0} (p : X → Bool) (x : X) (xs : List X) → position p (x ∷ xs) ≡ (if p x then Some 0 else option_map (λ k. k + 1) (position p xs))
position_cons p x xs = go (p x)
  where
    behind : (k l : ℕ) → cond (nat_lt (1 + k) (suc l)) (Some (1 + k)) None ≡ option_map (λ n. n + 1) (cond (nat_lt k l) (Some k) None)
    behind k l = grind (arith, nat_tests)

    go : (b : Bool) → cond (nat_lt (cond (not b) (1 + position_or_len p xs) 0) (suc (length xs))) (Some (cond (not b) (1 + position_or_len p xs) 0)) None
        ≡ (if b then Some 0 else option_map (λ n. n + 1) (position p xs))
    go true = let e : nat_lt 0 (suc (length xs)) ≡ true = grind (arith, nat_tests) in rw e refl
    go false = behind (position_or_len p xs) (length xs)

first_from : {X : Type 0} (p : X → Bool) (n : ℕ) (xs : List X) → option_map (λ k. k + n) (position p xs) ≡ first_at p n xs
first_from p n [] = refl
first_from p n (x ∷ xs) = ap (option_map (λ k. k + n)) (position_cons p x xs) ∙ go (p x) (first_from p (n + 1) xs)
  where
    shift : (o : Option ℕ) → option_map (λ k. k + n) (option_map (λ k. k + 1) o) ≡ option_map (λ k. k + (n + 1)) o
    shift (Some k) = ap Some (omega arith)
    shift None = refl

    go : (b : Bool) → option_map (λ k. k + (n + 1)) (position p xs) ≡ first_at p (n + 1) xs
        → option_map (λ k. k + n) (if b then Some 0 else option_map (λ k. k + 1) (position p xs)) ≡ (if b then Some n else first_at p (n + 1) xs)
    go true h = ap Some (omega arith)
    go false h = shift (position p xs) ∙ h

pub position_is : {X : Type 0} (p : X → Bool) (xs : List X) → first_at p 0 xs ≡ position p xs
position_is p xs = sym (first_from p 0 xs) ∙ go (position p xs)
  where
    go : (o : Option ℕ) → option_map (λ k. k + 0) o ≡ o
    go (Some k) = ap Some (omega arith)
    go None = refl

pub name_position : (q : List ℕ) (ks : List (Bor (List ℕ))) → position (λ x. bytes_eq q x.now) ks ≡ position (bytes_eq q) (plain_names ks)
name_position q ks = sym (position_is (λ x. bytes_eq q x.now) ks) ∙ go 0 ks ∙ position_is (bytes_eq q) (plain_names ks)
  where
    go : (n : ℕ) (xs : List (Bor (List ℕ))) → first_at (λ x. bytes_eq q x.now) n xs ≡ first_at (bytes_eq q) n (plain_names xs)
    go n [] = refl
    go n (x ∷ xs) = ap (λ rest. if bytes_eq q x.now then Some n else rest) (go (n + 1) xs)

-- what stood there counts first
pub or_noted : (o : Option ℕ) (b : Bool) (n : ℕ) (rest : Option ℕ)
    → option_or (option_or o (if b then Some n else None)) rest ≡ option_or o (if b then Some n else rest)
or_noted (Some k) b n rest = refl
or_noted None true n rest = refl
or_noted None false n rest = refl

-- a class more is known
pub placed_more : (old new : Option ℕ) (place : ℕ) (name q : List ℕ) (line : ClassLine) (rest : List ClassLine) → name ≡ line.name
    → new ≡ option_or old (noted name place q) → placed new (place + 1) q rest ≡ placed old place q (line ∷ rest)
placed_more old new place name q line rest same e =
    ap (λ o. placed o (place + 1) q rest) e
    ∙ or_noted old (bytes_eq q name) place (first_at (λ c. bytes_eq c.name q) (place + 1) rest)
    ∙ ap (λ b. option_or old (if b then Some place else first_at (λ c. bytes_eq c.name q) (place + 1) rest))
    (ap (bytes_eq q) same ∙ bytes_eq_turned q line.name)
