-- What the lowest bad receipt says of the result of settling.
use Rattle.std.proofs.Common.{◌≡◌, ℕ, arith, ap, subst}
use Rattle.std.specs.Prelude.{Some, None, Ok, Err, IsErrOf}
use Rattle.node_book.specs.declared.settle.Report.{Report}
use Rattle.node_book.specs.declared.settle.SettleFault.{SettleFault}
use Rattle.node_book.specs.declared.settle.SettleFault.TheVariants.{Misfit}
use Rattle.node_book.specs.Good.{IsLeastOf}

pub misfit_some : (A : Type 0) (P : ℕ → Type 0) (m : ℕ) → A → IsLeastOf P (Some m) → (n : ℕ)
    → (IsErrOf {T = Report} (Err (Misfit m)) (Misfit n) → A × IsLeastOf P (Some n)) × (A × IsLeastOf P (Some n) → IsErrOf {T = Report} (Err (Misfit m)) (Misfit n))
misfit_some A P m a least n = (
  (λ e. let same : m ≡ n = cc in (a, subst (λ k. IsLeastOf P (Some k)) same least)),
  (λ h. let below = least.1 n h.1.0 in let above = h.1.1 m least.0 in let same : m ≡ n = omega arith in ap (λ k. Err (Misfit k)) same),
)

pub misfit_none : (A : Type 0) (P : ℕ → Type 0) (r : Report) → IsLeastOf P None → (n : ℕ)
    → (IsErrOf {E = SettleFault} (Ok r) (Misfit n) → A × IsLeastOf P (Some n)) × (A × IsLeastOf P (Some n) → IsErrOf {E = SettleFault} (Ok r) (Misfit n))
misfit_none A P r none n = ((λ e. cc), (λ h. absurd (none n h.1.0)))
