-- What is written piece by piece.
use Rattle.std.proofs.Common.{rules, ◌≡◌, ℕ, ◌+◌, ◌<◌, ◌≤◌, List, [], ◌∷◌, ◌++◌, map, length, get_or, take, drop, Some, None, Ok, Err, Option, Result, refl, sym, ap, ◌∙◌, subst, ⊎_elim, add_assoc, take-append-drop, arith}
use Rattle.std.specs.Prelude.{IsErr}
use Rattle.std.specs.List.{flat_map}
use Rattle.std.specs.Io.{StartsWith}
use Rattle.std.proofs.Transfers.{starts_with_of_eq, starts_with_of_append, starts_with_trans}
use Rattle.std.proofs.lemmas.List.{append-nil, append_assoc, length-append, length-take, map-append, map_push, take_more, flat_map_more}
use Rattle.std.proofs.lemmas.List.Concat.{flat_map-append}
use Rattle.std.proofs.lemmas.Bool.{le-leb, lt-leb, cases_lt}
use Rattle.page.specs.declared.kept.Page.{Page}
use Rattle.page.specs.declared.writes.Full.{Full}
use Rattle.page.specs.Writes.{held, put, kept, Wrote, fitted}

-- two writes are one
pub put_put : (n : ℕ) (o : Option (List ℕ)) (t u : List ℕ) → put n (put n o t) u ≡ put n o (t ++ u)
put_put n None t u = refl
put_put n (Some s) t u =
    ⊎_elim
    (λ (over : n < length s + length t). let more : n < length s + length (t ++ u) = simp length-append (omega arith) in simp (lt-leb _ _ over, lt-leb _ _ more))
    (λ (fits : length s + length t ≤ n). simp (le-leb _ _ fits) (simp (length-append, append_assoc, add_assoc)))
    (cases_lt n (length s + length t))

-- what a write that ended well left
ok_held : (n : ℕ) (s t q : List ℕ) → Some q ≡ put n (Some s) t → q ≡ s ++ t
ok_held n s t q e =
    ⊎_elim
    (λ (over : n < length s + length t). absurd (search (rules, e, lt-leb _ _ over)))
    (λ (fits : length s + length t ≤ n). search (rules, e, le-leb _ _ fits))
    (cases_lt n (length s + length t))

infixl 20 ◌then◌
pub ◌then◌ : {p q r : Page} {d : Unit {0}} {z : Result (Unit {0}) Full} {t u : List ℕ} → Wrote p q (Ok d) t → Wrote q r z u → Wrote p r z (t ++ u)
◌then◌ {p} {q} {r} {d} {z} {t} {u} a b = record {
  lent = b.lent ∙ a.lent;
  long = b.long ∙ a.long;
  text =
      b.text
      ∙ ap (λ n. put n (Some (held q)) u) a.long
      ∙ ap (λ o. put (length p.bytes.now) o u) a.text
      ∙ put_put (length p.bytes.now) (Some (held p)) t u;
  stays = starts_with_trans _ _ _ b.stays a.stays;
  part =
      subst (λ l. StartsWith l (held r))
      (ap (λ l. l ++ u) (ok_held _ _ _ _ a.text) ∙ append_assoc (held p) t u)
      b.part;
}

-- nothing written fits
nothing_more : (n : ℕ) (s : List ℕ) → length s ≤ n → Some s ≡ put n (Some s) []
nothing_more n s fits =
    let room : length s + 0 ≤ n = omega arith in
    simp (le-leb _ _ room, append-nil)

pub wrote_none : (p : Page) → Wrote p p (Ok tt) []
wrote_none p =
    let fits : length (held p) ≤ length p.bytes.now = simp length-take (omega arith) in
    record { lent = refl; long = refl; text = nothing_more (length p.bytes.now) (held p) fits; stays = starts_with_of_eq _ _ refl; part = starts_with_of_append _ _ [] refl }

-- what does not fit does not fit with more after it
pub stopped : {p q : Page} {e : Full} {t : List ℕ} (u : List ℕ) → Wrote p q (Err e) t → Wrote p q (Err e) (t ++ u)
stopped {p} {q} {e} {t} u a = record {
  lent = a.lent;
  long = a.long;
  text = ap (λ o. put (length p.bytes.now) o u) a.text ∙ put_put (length p.bytes.now) (Some (held p)) t u;
  stays = a.stays;
  part = starts_with_trans _ _ _ (starts_with_of_append _ _ u (sym (append_assoc (held p) t u))) a.part;
}

-- a write that ended in an error
err_kept : (q : Page) (z : Result (Unit {0}) Full) → IsErr z → kept q z ≡ None
err_kept q (Ok d) h = cc
err_kept q (Err e) h = refl

pub risen : {p q : Page} {z : Result (Unit {0}) Full} {e : Full} {t : List ℕ} → IsErr z → Wrote p q (Err e) t → Wrote p q z t
risen {p} {q} {z} h a = record { lent = a.lent; long = a.long; text = err_kept q z h ∙ a.text; stays = a.stays; part = a.part }

full_err : (r : Result ℕ Full) → IsErr r → r ≡ Err (record {})
full_err (Ok n) h = cc
full_err (Err e) h = refl

-- a text that a blank page had no room for does not fit it
pub unfit : {p q : Page} {e : Full} {t : List ℕ} (n : ℕ) (r : Result ℕ Full) → IsErr r → held p ≡ [] → length p.bytes.now ≡ n → Wrote p q (Err e) t → r ≡ fitted n t
unfit {p} {q} {e} {t} n r h blank long w =
    let none : ◌≡◌ {A = Option (List ℕ)} None (put n (Some []) t) =
    w.text ∙ ap (λ s. put (length p.bytes.now) (Some s) t) blank ∙ ap (λ m. put m (Some []) t) long
    in
    ⊎_elim
    (λ (over : n < length t). full_err r h ∙ sym (simp (lt-leb _ _ over) refl))
    (λ (fits : length t ≤ n). absurd (search (rules, none, le-leb _ _ fits)))
    (cases_lt n (length t))

-- the same text in another form
pub spelled_as : {p q : Page} {r : Result (Unit {0}) Full} {t u : List ℕ} → t ≡ u → Wrote p q r t → Wrote p q r u
spelled_as {p} {q} {r} is a = subst (Wrote p q r) is a

-- a list written item by item: what stands before the item at i, that item, and what is left
module _ {A B : Type 0} (f : B → List ℕ) (g : A → B) (xs : List A) (i : ℕ) (d : A) (lt : i < length xs) where
  abbrev pub before : List ℕ
  before = flat_map f (map g (take i xs))

  abbrev pub left : List ℕ
  left = flat_map f (map g (drop (i + 1) xs))

  pub parted : (before ++ f (g (get_or xs i d))) ++ left ≡ flat_map f (map g xs)
  parted =
      ap (λ l. l ++ left) (flat_map_more f [] (map g (take i xs)) (g (get_or xs i d)))
      ∙ sym (flat_map-append f (map g (take i xs) ++ g (get_or xs i d) ∷ []) (map g (drop (i + 1) xs)))
      ∙ ap (λ l. flat_map f (l ++ map g (drop (i + 1) xs))) (sym (map_push g (take i xs) (get_or xs i d)))
      ∙ ap (flat_map f) (sym (map-append g (take i xs ++ get_or xs i d ∷ []) (drop (i + 1) xs)))
      ∙ ap (λ l. flat_map f (map g (l ++ drop (i + 1) xs))) (sym (take_more xs i d lt))
      ∙ ap (λ l. flat_map f (map g l)) (take-append-drop (i + 1) xs)

  -- the item did not fit
  pub item_stopped : {p q s : Page} {e : Full} {b : Unit {0}} (u : List ℕ) → Wrote p q (Ok b) before → Wrote q s (Err e) (f (g (get_or xs i d))) → Wrote p s (Err e) (flat_map f (map g xs) ++ u)
  item_stopped u a b = spelled_as (sym (append_assoc (before ++ f (g (get_or xs i d))) left u) ∙ ap (λ l. l ++ u) parted) (stopped (left ++ u) (a then b))
