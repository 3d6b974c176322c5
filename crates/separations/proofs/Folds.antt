-- What a fold over an iterator keeps from place to place. Assumes nothing.
use Rattle.std.proofs.Common.{Bor, Iter, ◌≡◌, ℕ, ◌+◌, ◌<◌, List, [], ◌∷◌, ◌++◌, length, get_or, Some, None, Option, refl, sym, ap, ◌∙◌, subst, length-append, arith}
use Rattle.std.proofs.lemmas.Iterator.{YieldsList, YieldsList-from_slice, YieldsList-from_zip, zips}
use Rattle.std.proofs.lemmas.Fn.{fronts}
use Rattle.std.specs.declared.iter.Zip.{Zip}
use Rattle.std.specs.Iterator.Adapters.{zip_first, zip_second}
use Rattle.std.specs.Slice.Iter.{iter_rest}
use Rattle.std.proofs.lemmas.Iterator.Consumers.{YieldsList-turn, YieldsList-end}
use Rattle.std.proofs.lemmas.List.{get_or_read}
use Rattle.std.proofs.lemmas.Slice.Zip.{length-zip, get_or-zip}
use Rattle.std.proofs.iter.Next.{Yields-more}
use Rattle.std.specs.Fn.{Called, Takes}
use Rattle.std.specs.Iterator.{Yields, FoldTurn, FoldsItems, CallableInFold}
use Rattle.std.specs.List.{FoldsTo, zip}
use denote.Param.Members.{Mut}

module _
    {S A B C F : Type 0} {steps : S → Option A → S → Type 0} {v : A → B} {s : S} {all : List B} (road : YieldsList steps v s all)
    (g : Mut F (C × (A × Unit {0})) C) (f : F) (J : ℕ → C → Type 0) where
  -- the call at the item of each place leaves the closure as it was, and takes J of the place to J of the next
  abbrev pub Keeps : Type 0
  Keeps =
      (k : ℕ) (a : C) (x : A) (b : C) (q : F) → k < length all → v x ≡ get_or all k (v x) → J k a →
      Called g f (a, (x, tt)) b q → (q ≡ f) × J (k + 1) b

  along :
      (xs done : List A) (t w : S) (a r : C) (q : F) → Keeps → Yields steps s done t → Yields steps t xs w →
      J (length done) a → FoldsTo {P = F × C} (FoldTurn g) (f, a) xs (q, r) → (q ≡ f) × J (length done + length xs) r
  along [] done t w a r q keeps before y j e =
      let same : length done ≡ length done + 0 = omega arith in
      (sym (ap (λ (p : F × C). p.0) e), subst (λ n. J n r) same (subst (J (length done)) (ap (λ (p : F × C). p.1) e) j))
  along (x ∷ xs) done t w a r q keeps before y j c =
      let turn = YieldsList-turn road done t before (Some x) y.0 x refl y.1 in
      let one = keeps (length done) a x c.0.1 c.0.0 turn.0 turn.1 j c.1 in
      let long : length (done ++ x ∷ []) ≡ length done + 1 = length-append done (x ∷ []) in
      let rest = along xs (done ++ x ∷ []) y.0 w c.0.1 r q keeps (Yields-more steps s done t x y.0 before y.1) y.2
      (subst (λ n. J n c.0.1) (sym long) one.1)
      (subst (λ (h : F). FoldsTo {P = F × C} (FoldTurn g) (h, c.0.1) xs (q, r)) one.0 c.2) in
      let same : length (done ++ x ∷ []) + length xs ≡ length done + length (x ∷ xs) = omega arith in
      (rest.0, subst (λ n. J n r) same rest.1)

  -- the result of the fold
  pub fold_reaches : Keeps → (init r : C) → J 0 init → FoldsItems steps g s f init r → J (length all) r
  fold_reaches keeps init r j (xs, q, (u, (t, y, end)), c) =
      let whole = along xs [] s t init r q keeps refl y j c in
      let last = YieldsList-end road xs t y None u refl end in
      let same : 0 + length xs ≡ length all = omega arith in subst (λ n. J n r) same whole.1

  -- the closure may be called at each item
  pub fold_serves :
      Keeps → (init : C) → J 0 init →
      ((k : ℕ) (a : C) (x : A) → k < length all → v x ≡ get_or all k (v x) → J k a → Takes g f (a, (x, tt))) →
      CallableInFold steps g s f init
  fold_serves keeps init j takes =
      record {
        at = λ xs t q x u y c e.
            let so_far = along xs [] s t init q.1 q.0 keeps refl y j c in
            let turn = YieldsList-turn road xs t y (Some x) u x refl e in
            let same : 0 + length xs ≡ length xs = omega arith in
            subst (λ (h : F). Takes g h (q.1, (x, tt))) (sym so_far.0)
            (takes (length xs) q.1 x turn.0 turn.1 (subst (λ n. J n q.1) same so_far.1));
      }

-- a fold over a zip of two slices
module _
    {A B C F : Type 0} (ks : List A) (vs : List B) (s : Zip (Iter A) (Iter B)) (first : iter_rest (zip_first s) ≡ ks)
    (second : iter_rest (zip_second s) ≡ vs) (g : Mut F (C × ((Bor A × Bor B) × Unit {0})) C) (f : F) (J : ℕ → C → Type 0)
  where
    -- the pair is that of the place
    pub record Pair (k : ℕ) (x : Bor A × Bor B) : Type 0 where
      pub low : k < length ks
      pub high : k < length vs
      pub left : (d : A) → x.0.now ≡ get_or ks k d
      pub right : (e : B) → x.1.now ≡ get_or vs k e

    pairs : YieldsList (zips fronts fronts) (λ p. (p.0.now, p.1.now)) s (zip ks vs)
    pairs = YieldsList-from_zip (YieldsList-from_slice ks first) (YieldsList-from_slice vs second)

    pair_at :
        (k : ℕ) (x : Bor A × Bor B) → k < length (zip ks vs) →
        (x.0.now, x.1.now) ≡ get_or (zip ks vs) k (x.0.now, x.1.now) → Pair k x
    pair_at k x l h =
        let long = length-zip ks vs in
        let low : k < length ks = omega arith in
        let high : k < length vs = omega arith in
        let pair = h ∙ get_or-zip ks vs k (x.0.now, x.1.now) low high in
        record {
          low = low;
          high = high;
          left = get_or_read ks k x.0.now low (ap (λ (p : A × B). p.0) pair);
          right = get_or_read vs k x.1.now high (ap (λ (p : A × B). p.1) pair);
        }

    abbrev pub KeepsAlong : Type 0
    KeepsAlong =
        (k : ℕ) (a : C) (x : Bor A × Bor B) (b : C) (q : F) → Pair k x → J k a → Called g f (a, (x, tt)) b q →
        (q ≡ f) × J (k + 1) b

    keeps_at : KeepsAlong → Keeps pairs g f J
    keeps_at keeps k a x b q l h j call = keeps k a x b q (pair_at k x l h) j call

    -- the result of the fold
    pub zip_reaches :
        KeepsAlong → (n : ℕ) (init r : C) → length ks ≡ n → length vs ≡ n → J 0 init →
        FoldsItems (zips fronts fronts) g s f init r → J n r
    zip_reaches keeps n init r e h j ran =
        let long = length-zip ks vs in
        let same : length (zip ks vs) ≡ n = omega arith in
        subst (λ n. J n r) same (fold_reaches pairs g f J (keeps_at keeps) init r j ran)

    -- the closure may be called at each pair
    pub zip_serves :
        KeepsAlong → (init : C) → J 0 init →
        ((k : ℕ) (a : C) (x : Bor A × Bor B) → Pair k x → J k a → Takes g f (a, (x, tt))) →
        CallableInFold (zips fronts fronts) g s f init
    zip_serves keeps init j takes =
        fold_serves pairs g f J (keeps_at keeps) init j (λ k a x l h j. takes k a x (pair_at k x l h) j)
