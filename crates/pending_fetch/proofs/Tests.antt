-- A test of all fetches, read one by one.
use Rattle.std.proofs.Common.{◌≡◌, ℕ, zero, suc, ◌+◌, ◌<◌, Bool, true, false, List, [], ◌∷◌, ◌++◌, length, take, get_or, refl, ap, sym, ◌∙◌, arith, ◌&&◌}
use Rattle.std.proofs.lemmas.List.{take_more}
use Rattle.std.proofs.lemmas.List.Folds.{list_all-append}
use Rattle.std.specs.List.{list_all}
use Rattle.pending_fetch.specs.Fetches.{PendingFetch}

pub all_more : (test : PendingFetch → Bool) (list : List PendingFetch) (i : ℕ) (d : PendingFetch) → i < length list → list_all test (take i list) ≡ true → test (get_or list i d) ≡ true →
    list_all test (take (i + 1) list) ≡ true
all_more test list i d l h k =
    ap (list_all test) (take_more list i d l) ∙ list_all-append test (take i list) (get_or list i d ∷ []) ∙ ap (λ v. v && list_all test (get_or list i d ∷ [])) h ∙ ap (λ v. v && true) k

pub one_fails : (test : PendingFetch → Bool) (list : List PendingFetch) (i : ℕ) (d : PendingFetch) → i < length list → test (get_or list i d) ≡ false → list_all test list ≡ false
one_fails test [] i d l k = absurd (omega (arith, l))
one_fails test (x ∷ xs) zero d l k = rw k refl
one_fails test (x ∷ xs) (suc i) d l k =
    let rest : list_all test xs ≡ false = one_fails test xs i d (omega (arith, l)) k in
    grind arith
