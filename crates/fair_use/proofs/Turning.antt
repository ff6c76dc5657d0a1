-- Where one of two lists is over.
use Rattle.std.proofs.Common.{◌≡◌, ℕ, ◌≤◌, ◌⊎◌, inl, inr, min, List, [], ◌∷◌, ◌++◌, length, drop, refl, sym, ap, ◌∙◌, arith}
use Rattle.std.proofs.lemmas.List.{drop_all, append-nil}
use Rattle.std.specs.declared.net.ip_addr.IpAddr.{IpAddr}
use Rattle.fair_use.specs.Turns.{by_turns}

either_over : (m n k : ℕ) → min m n ≤ k → (m ≤ k) ⊎ (n ≤ k)
either_over m n k h = grind arith

alone : (first : List IpAddr) → by_turns first [] ≡ first
alone [] = refl
alone (one ∷ first) = refl

first_over : (n : ℕ) (turns first second : List IpAddr) → length first ≤ n
    → turns ++ drop n first ++ drop n second ≡ turns ++ by_turns (drop n first) (drop n second)
first_over n turns first second h =
    ap (λ xs. turns ++ xs ++ drop n second) (drop_all n first h)
    ∙ (ap (λ xs. xs ++ drop n second) (append-nil turns) ∙ ap (λ xs. turns ++ by_turns xs (drop n second)) (sym (drop_all n first h)))

second_over : (n : ℕ) (turns first second : List IpAddr) → length second ≤ n
    → turns ++ drop n first ++ drop n second ≡ turns ++ by_turns (drop n first) (drop n second)
second_over n turns first second h =
    ap (λ xs. turns ++ drop n first ++ xs) (drop_all n second h)
    ∙ (append-nil (turns ++ drop n first)
    ∙ (ap (λ xs. turns ++ xs) (sym (alone (drop n first))) ∙ ap (λ xs. turns ++ by_turns (drop n first) xs) (sym (drop_all n second h))))

-- what is left of two lists behind their turns, of which one is over
pub ends : (n : ℕ) (turns first second : List IpAddr) → min (length first) (length second) ≤ n
    → turns ++ drop n first ++ drop n second ≡ turns ++ by_turns (drop n first) (drop n second)
ends n turns first second h =
    elim (either_over (length first) (length second) n h) [
      | inl k ↦ first_over n turns first second k
      | inr k ↦ second_over n turns first second k
    ]
