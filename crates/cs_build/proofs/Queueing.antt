-- Lists of processes that are ready, one process more.
use Rattle.std.proofs.Common.{◌≡◌, ℕ, Bool, true, false, cond, List, [], ◌∷◌, ◌++◌, Some, None, Option, Bor, reverse, refl, ap, sym, ◌∙◌, if◌then◌else◌}
use Rattle.std.specs.Prelude.{option_map, option_and_then, filter, ◌&&◌, ◌||◌, unwrap_or, fold}
use Rattle.std.specs.List.{list_any}
use Rattle.std.proofs.lemmas.List.{reverse-append, append_assoc}
use Rattle.std.proofs.lemmas.List.Elements.{filter-append}
use Rattle.std.proofs.lemmas.Slice.Eq.{bytes_eq-Decides}
use Rattle.std.specs.Option.{option_or}
use Rattle.std.specs.Str.{bytes_eq}
use Rattle.cs_model.specs.BuilderText as text
use Rattle.cs_model.specs.Builder.{ready_behind, ready_in, has_priority, with_new}
use Rattle.cs_model.specs.Text.{first_that}
use Rattle.cs_build.specs.Queued.{linked_behind, ready_at, ready_lists, is_process_at}
use Rattle.cs_build.specs.Numbered.{mentioned}

-- ---- the links

pub link_none : (b : Bool) (old : Option (Option (Bor (List ℕ))))
    → option_and_then (λ (p : Option (Bor (List ℕ))). option_map (λ (n : Bor (List ℕ)). n.now) p) (cond b (Some None) old)
    ≡ (if b then None else option_and_then (λ (p : Option (Bor (List ℕ))). option_map (λ (n : Bor (List ℕ)). n.now) p) old)
link_none true old = refl
link_none false old = refl

pub link_some : (b : Bool) (name : Bor (List ℕ)) (old : Option (Option (Bor (List ℕ))))
    → option_and_then (λ (p : Option (Bor (List ℕ))). option_map (λ (n : Bor (List ℕ)). n.now) p) (cond b (Some (Some name)) old)
    ≡ (if b then Some name.now else option_and_then (λ (p : Option (Bor (List ℕ))). option_map (λ (n : Bor (List ℕ)). n.now) p) old)
link_some true name old = refl
link_some false name old = refl

same_both : (b : Bool) (o : Option (List ℕ)) → o ≡ (if b then o else o)
same_both true o = refl
same_both false o = refl

-- what stands behind a process of a list with one process more
pub behind_more : (q name : List ℕ) (names : List (List ℕ)) → ready_behind q (name ∷ names) ≡ linked_behind (first_that names) name q (ready_behind q names)
behind_more q name [] = same_both (bytes_eq name q) None
behind_more q name (last ∷ names) = refl

-- ---- the first process

first_append : (xs ys : List (List ℕ)) → first_that (xs ++ ys) ≡ option_or (first_that xs) (first_that ys)
first_append [] ys = refl
first_append (x ∷ xs) ys = refl

-- one process more at the end
pub first_new : (first : Option (Bor (List ℕ))) (r name : Bor (List ℕ)) (names : List (List ℕ)) → r ≡ unwrap_or first name
    → option_map (λ (n : Bor (List ℕ)). n.now) first ≡ first_that (reverse names) → Some r.now ≡ first_that (reverse (name.now ∷ names))
first_new first r name names e h = ap (λ (n : Bor (List ℕ)). Some n.now) e ∙ go first
    ∙ ap (λ (o : Option (List ℕ)). option_or o (Some name.now)) h ∙ sym (ap first_that (reverse-append (name.now ∷ []) names) ∙ first_append (reverse names) (name.now ∷ []))
  where
    go : (o : Option (Bor (List ℕ))) → Some (unwrap_or o name).now ≡ option_or (option_map (λ (n : Bor (List ℕ)). n.now) o) (Some name.now)
    go (Some n) = refl
    go None = refl

-- ---- lines that make processes ready

pub ready_yes : (passes : List ℕ → Bool) (name : List ℕ) → passes name ≡ true → ready_at passes (text.Ready name) ≡ name ∷ []
ready_yes passes name e = ap (λ b. if b then name ∷ [] else []) e

pub ready_no : (passes : List ℕ → Bool) (name : List ℕ) → passes name ≡ false → ready_at passes (text.Ready name) ≡ []
ready_no passes name e = ap (λ b. if b then name ∷ [] else []) e

pub ready_cons : (form : text.Form) (forms : List text.Form) → ready_in (form ∷ forms) ≡ ready_in (form ∷ []) ++ ready_in forms
ready_cons (text.Ready name) forms = refl
ready_cons form forms = refl

ready_append : (xs ys : List text.Form) → ready_in (xs ++ ys) ≡ ready_in xs ++ ready_in ys
ready_append [] ys = refl
ready_append (x ∷ xs) ys = ready_cons x (xs ++ ys) ∙ ap (λ zs. ready_in (x ∷ []) ++ zs) (ready_append xs ys)
    ∙ sym (append_assoc (ready_in (x ∷ [])) (ready_in xs) (ready_in ys)) ∙ ap (λ zs. zs ++ ready_in ys) (sym (ready_cons x xs))

one_reversed : (form : text.Form) (passes : List ℕ → Bool) → reverse (filter passes (ready_in (form ∷ []))) ≡ ready_at passes form
one_reversed (text.Ready name) passes = go (passes name)
  where
    go : (b : Bool) → reverse (cond b (name ∷ []) []) ≡ cond b (name ∷ []) []
    go true = refl
    go false = refl
one_reversed form passes = refl

pub ready_more : (passes : List ℕ → Bool) (forms : List text.Form) (form : text.Form)
    → ready_lists passes (forms ++ form ∷ []) ≡ ready_at passes form ++ ready_lists passes forms
ready_more passes forms form = ap (λ names. reverse (filter passes names)) (ready_append forms (form ∷ []))
    ∙ ap reverse (filter-append passes (ready_in forms) (ready_in (form ∷ [])))
    ∙ reverse-append (filter passes (ready_in forms)) (filter passes (ready_in (form ∷ [])))
    ∙ ap (λ names. names ++ ready_lists passes forms) (one_reversed form passes)

-- ---- priorities

pub and_turned : (a b : Bool) → a && b ≡ b && a
and_turned true true = refl
and_turned true false = refl
and_turned false true = refl
and_turned false false = refl

pub cond_or : (a b : Bool) → cond a true b ≡ a || b
cond_or true b = refl
cond_or false b = refl

priority_cons : (form : text.Form) (forms : List text.Form) (priority : ℕ) (name : List ℕ)
    → has_priority (form ∷ forms) priority name ≡ is_process_at priority name form || has_priority forms priority name
priority_cons (text.Process line) forms priority name = refl
priority_cons form forms priority name = refl

pub priority_more : (form : text.Form) (forms : List text.Form) (priority : ℕ) (name : List ℕ) (new old : Bool)
    → new ≡ (is_process_at priority name form || old) → has_priority forms priority name || new ≡ has_priority (form ∷ forms) priority name || old
priority_more form forms priority name new old e = ap (λ b. has_priority forms priority name || b) e
    ∙ go (is_process_at priority name form) (has_priority forms priority name) old ∙ ap (λ b. b || old) (sym (priority_cons form forms priority name))
  where
    go : (a b c : Bool) → b || (a || c) ≡ (a || b) || c
    go true true c = refl
    go true false c = refl
    go false b c = go2 b c
      where
        go2 : (b c : Bool) → b || c ≡ b || c
        go2 b c = refl

pub or_nothing : (b : Bool) → b || false ≡ b
or_nothing true = refl
or_nothing false = refl

-- ---- names, each once

any_push : (q : List ℕ) (names : List (List ℕ)) (name : List ℕ) → list_any (bytes_eq q) (names ++ name ∷ []) ≡ list_any (bytes_eq q) names || bytes_eq q name
any_push q [] name = or_nothing (bytes_eq q name)
any_push q (n ∷ names) name = ap (λ b. bytes_eq q n || b) (any_push q names name) ∙ go (bytes_eq q n) (list_any (bytes_eq q) names) (bytes_eq q name)
  where
    go : (a b c : Bool) → a || (b || c) ≡ (a || b) || c
    go true b c = refl
    go false b c = refl

any_new : (q : List ℕ) (names : List (List ℕ)) (name : List ℕ) → list_any (bytes_eq q) (with_new names name) ≡ list_any (bytes_eq q) names || bytes_eq q name
any_new q names name = go (list_any (bytes_eq name) names) (bytes_eq q name) refl refl
  where
    go : (b d : Bool) → list_any (bytes_eq name) names ≡ b → bytes_eq q name ≡ d
        → list_any (bytes_eq q) (if b then names else names ++ name ∷ []) ≡ list_any (bytes_eq q) names || bytes_eq q name
    go false d e h = any_push q names name
    go true true e h =
        let same : q ≡ name = (bytes_eq-Decides q name).0 h in
        let there : list_any (bytes_eq q) names ≡ true = ap (λ x. list_any (bytes_eq x) names) same ∙ e in
        there ∙ sym (ap (λ b. b || bytes_eq q name) there)
    go true false e h = sym (ap (λ b. list_any (bytes_eq q) names || b) h ∙ or_nothing (list_any (bytes_eq q) names))

any_mentioned_from : (q : List ℕ) (names more : List (List ℕ)) → list_any (bytes_eq q) (fold with_new names more) ≡ list_any (bytes_eq q) names || list_any (bytes_eq q) more
any_mentioned_from q names [] = sym (or_nothing (list_any (bytes_eq q) names))
any_mentioned_from q names (n ∷ more) = any_mentioned_from q (with_new names n) more ∙ ap (λ b. b || list_any (bytes_eq q) more) (any_new q names n)
    ∙ go (list_any (bytes_eq q) names) (bytes_eq q n) (list_any (bytes_eq q) more)
  where
    go : (a b c : Bool) → (a || b) || c ≡ a || (b || c)
    go true b c = refl
    go false b c = refl

-- a name is among those, each once, as among all
pub any_mentioned : (q : List ℕ) (names : List (List ℕ)) → list_any (bytes_eq q) (mentioned [] names) ≡ list_any (bytes_eq q) names
unfolding mentioned
any_mentioned q names = any_mentioned_from q [] names
