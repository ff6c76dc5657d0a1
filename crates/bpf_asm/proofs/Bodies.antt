-- A body matches one row of the table, and this row is found.
use Rattle.std.proofs.Common.{◌≡◌, ℕ, List, [], ◌∷◌, Some, None, ap, sym, ◌∙◌}
use Rattle.bpf_check.specs.declared.operation.Operation.{Operation}
use Rattle.bpf_check.specs.Operation.{table}
use Rattle.bpf_asm.specs.Form.{mnemonic}
use Rattle.bpf_asm.specs.Spelling.{kinds, spelled_with}
use Rattle.bpf_asm.specs.Reading.{Row, find_row}
use Rattle.bpf_asm.specs.Assembly.{IsBody, HasForm}
use Rattle.bpf_asm.specs.Drafts.{Draft, Keeps, IsDraft}
use Rattle.bpf_asm.proofs.Fill.{read_spelled, read_open}
use Rattle.bpf_asm.proofs.Codes.{one_code, Found}
use Rattle.bpf_asm.proofs.OneRow.{one_row}

row_same : (a b : Row) → a.code ≡ b.code → a.operation ≡ b.operation → a.words ≡ b.words → a ≡ b
row_same a b p q r = λ i. record { code = p i; operation = q i; words = r i }

abbrev pub row_with : ℕ → Operation → List (List ℕ) → Row
row_with code operation ws = record { code = code; operation = operation; words = ws }

pub body_row : (w : List ℕ) (ts : List (List ℕ)) (code : ℕ) (operation : Operation) (ws : List (List ℕ)) → IsBody (w ∷ ts) code operation ws → find_row table w ts ≡ Some (row_with code operation ws)
body_row w ts code operation ws is =
    let first : w ≡ mnemonic operation = (let e = is.spelled in cc) in
    let rest : ts ≡ spelled_with (kinds operation) ws = (let e = is.spelled in cc) in
    ap (λ (x : List ℕ). find_row table x ts) first ∙ ap (find_row table (mnemonic operation)) rest ∙ one_row operation ws is.form
    ∙ ap (λ (n : ℕ). Some (row_with n operation ws)) (sym (one_code code operation is.row))

some_row : (a b : Row) → Some a ≡ Some b → a ≡ b
some_row a b e = cc

pub record Same (c d : ℕ) (o q : Operation) (ws vs : List (List ℕ)) : Type 0 where
  pub code : c ≡ d
  pub operation : o ≡ q
  pub words : ws ≡ vs

pub one_body : (body : List (List ℕ)) (c d : ℕ) (o q : Operation) (ws vs : List (List ℕ)) → IsBody body c o ws → IsBody body d q vs → Same c d o q ws vs
one_body [] c d o q ws vs a b = absurd (let e = a.spelled in cc)
one_body (w ∷ ts) c d o q ws vs a b =
    let e = some_row (row_with c o ws) (row_with d q vs) (sym (body_row w ts c o ws a) ∙ body_row w ts d q vs b) in
    record { code = ap (λ (r : Row). r.code) e; operation = ap (λ (r : Row). r.operation) e; words = ap (λ (r : Row). r.words) e }

pub no_form : (w : List ℕ) (ts : List (List ℕ)) → find_row table w ts ≡ None → HasForm (w ∷ ts) → ⊥
no_form w ts none h = absurd (let e = body_row w ts h.0 h.1 h.2 h.3 in cc)

pub found_body : (w : List ℕ) (ts : List (List ℕ)) (r : Row) → Found w ts r → IsBody (w ∷ ts) r.code r.operation r.words
found_body w ts r f = record {
  row = f.decodes;
  form = read_open (kinds r.operation) ts r.words f.filled;
  spelled = (let first = f.mnemonic in let rest = read_spelled (kinds r.operation) ts r.words f.filled in λ i. first i ∷ rest i);
}

pub draft_made : (body : List (List ℕ)) (d : Draft) (r : Row) (ws : List (List ℕ)) → IsBody body r.code r.operation r.words → d.code ≡ r.code → d.operation ≡ r.operation → ws ≡ r.words → Keeps d r.operation ws → IsDraft body d
draft_made body d r ws is code operation words keeps = record {
  ws = r.words;
  written = rw (code, operation) is;
  kept = rw (operation, ← words) keeps;
}
