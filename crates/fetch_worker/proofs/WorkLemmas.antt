-- Jobs and actions one after another.
use Rattle.std.proofs.Common.{◌≡◌, ◌<◌, ◌⊎◌, inl, inr, ℕ, ◌+◌, length, take, drop, get_or, filter, option_map, List, [], ◌∷◌, ◌++◌, Option, Some, None, refl, ap, sym, ◌∙◌, subst, append_assoc, append-nil, arith}
use Rattle.std.proofs.lemmas.List.{take_more, take-append-drop}
use Rattle.std.proofs.lemmas.List.Elements.{filter-append}
use Rattle.node_words.specs.declared.action.Action.{Action}
use Rattle.plain_node.specs.Memory.{is_no_send}
use Rattle.node_book.specs.Told.{Told, passing}
use Rattle.node_words.specs.declared.event.Outcome.{Outcome}
use Rattle.fetch_worker.specs.Working.{Submitted, FailsUnknown, Answered, AnswersJob, AnswersJobs, Breaks, Stops}

-- one more job
pub jobs-more : (a b c : Told) (jobs : List Action) (job : Action) → AnswersJobs a b jobs → AnswersJob b c job [] → AnswersJobs a c (jobs ++ job ∷ [])
jobs-more a b c [] job p q = (c, subst (λ (x : Told). AnswersJob x c job []) p q, refl)
jobs-more a b c (first ∷ jobs) job p q = (p.0, p.1, jobs-more p.0 b c jobs job p.2 q)

more-twice : (list : Option (List Action)) (xs ys : List Action) → option_map (λ l. l ++ ys) (option_map (λ l. l ++ xs) list) ≡ option_map (λ l. l ++ (xs ++ ys)) list
more-twice None xs ys = refl
more-twice (Some list) xs ys = ap Some (append_assoc list xs ys)

more-none : (list : Option (List Action)) → list ≡ option_map (λ l. l ++ []) list
more-none None = refl
more-none (Some list) = ap Some (sym (append-nil list))

pub passing_none : (told : Told) → told ≡ passing [] told
passing_none told = ap (λ (l : Option (List Action)). record told { passed = l }) (more-none told.passed)

passing-twice : (a b c : Told) (xs ys : List Action) → b ≡ passing xs a → c ≡ passing ys b → c ≡ passing (xs ++ ys) a
passing-twice a b c xs ys p q = q ∙ ap (passing ys) p ∙ ap (λ (l : Option (List Action)). record a { passed = l }) (more-twice a.passed xs ys)

-- a prefix with one more
pub passes-more : (a b c : Told) (actions : List Action) (action : Action) (n : ℕ) → n < length actions → action ≡ get_or actions n action →
    b ≡ passing (filter is_no_send (take n actions)) a → c ≡ passing (filter is_no_send (action ∷ [])) b →
    c ≡ passing (filter is_no_send (take (n + 1) actions)) a
passes-more a b c actions action n lt is p q =
    let front : take (n + 1) actions ≡ take n actions ++ action ∷ [] = take_more actions n action lt ∙ ap (λ (x : Action). take n actions ++ x ∷ []) (sym is) in
    let kept : filter is_no_send (take (n + 1) actions) ≡ filter is_no_send (take n actions) ++ filter is_no_send (action ∷ []) = ap (filter is_no_send) front ∙ filter-append is_no_send (take n actions) (action ∷ []) in
    passing-twice a b c (filter is_no_send (take n actions)) (filter is_no_send (action ∷ [])) p q ∙ ap (λ (l : List Action). passing l a) (sym kept)

-- what is left after a prefix
pub front-left : (actions : List Action) (n : ℕ) → filter is_no_send actions ≡ filter is_no_send (take n actions) ++ filter is_no_send (drop n actions)
front-left actions n = ap (filter is_no_send) (sym (take-append-drop n actions)) ∙ filter-append is_no_send (take n actions) (drop n actions)

-- a job that was not answered completely is some job
pub breaks-stops : (a b : Told) (job : Action) → Breaks a b job → Stops a b
breaks-stops a b job (inl same) = inl same
breaks-stops a b job (inr some) = inr (job, some.0, some.1)

-- a result was taken, and a prefix of its actions was passed on
pub answered-in-part : (before mid between after : Told) (fetch attempt : ℕ) (outcome : Outcome) (actions shown done left : List Action)
    → mid ≡ before → FailsUnknown before fetch outcome → Submitted mid between fetch attempt outcome actions → shown ≡ actions
    → filter is_no_send shown ≡ done ++ left → after ≡ passing done between → Answered before after fetch attempt left
answered-in-part before mid between after fetch attempt outcome actions shown done left same unknown taken is front passed = record {
  between = between;
  outcome = outcome;
  actions = actions;
  done = done;
  taken = subst (λ (x : Told). Submitted x between fetch attempt outcome actions) same taken;
  unknown = unknown;
  front = ap (filter is_no_send) (sym is) ∙ front;
  passed = passed;
}
