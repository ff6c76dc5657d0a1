-- What a fetch worker submits for its jobs.
use Rattle.std.specs.Prelude.{◌≡◌, ◌⊎◌, ℕ, filter, List, [], ◌∷◌, ◌++◌, None, IfSome}
use Rattle.pending_fetch.specs.Fetches.{fetch_of}
use Rattle.node_words.specs.declared.action.Action.{Action}
use Rattle.node_words.specs.declared.action.Action.TheVariants.{Send, Fetch, Serve}
use Rattle.node_words.specs.declared.event.Outcome.{Outcome}
use Rattle.node_words.specs.declared.event.Outcome.TheVariants.{Failed}
use Rattle.plain_node.specs.Memory.{is_no_send}
use Rattle.node_core.specs.Happening.{ends}
use Rattle.node_book.specs.Told.{Owned, Told, Submits, passing}

-- one result of this fetch and attempt was taken: this outcome, or a failure
pub record Submitted (before after : Told) (fetch attempt : ℕ) (outcome : Outcome) (actions : List Action) : Type 0 where
  pub said : Outcome
  pub now : ℕ
  pub number : ℕ
  pub taken : Submits before after number (ends fetch attempt said now) actions
  pub kept : (said ≡ outcome) ⊎ (said ≡ Failed)

-- if the node is told, a fetch that isn't pending has failed
abbrev pub FailsUnknown : Told → ℕ → Outcome → Type 0
FailsUnknown told fetch outcome = IfSome told.node (λ (n : Owned). fetch_of fetch n.state.plain.fetches.list ≡ None → outcome ≡ Failed)

-- One result of this fetch and attempt was taken, and its actions that are not sends were passed on, in order, except for those
-- in `left` at the end.
pub record Answered (before after : Told) (fetch attempt : ℕ) (left : List Action) : Type 0 where
  pub between : Told
  pub outcome : Outcome
  pub actions : List Action
  pub done : List Action
  pub taken : Submitted before between fetch attempt outcome actions
  pub unknown : FailsUnknown before fetch outcome
  pub front : filter is_no_send actions ≡ done ++ left
  pub passed : after ≡ passing done between

-- a job was answered: a Fetch by one result, anything else by nothing
abbrev pub AnswersJob : Told → Told → Action → List Action → Type 0
AnswersJob before after (Send socket to payload) left = after ≡ before
AnswersJob before after (Fetch fetch attempt source only_if_cached owner) left = Answered before after fetch attempt left
AnswersJob before after (Serve client answer) left = after ≡ before

-- jobs were answered one after another
abbrev pub AnswersJobs : Told → Told → List Action → Type 0
AnswersJobs before after [] = after ≡ before
AnswersJobs before after (job ∷ jobs) = (between : Told) × AnswersJob before between job [] × AnswersJobs between after jobs

-- a job was not answered completely: nothing was taken, or some actions of its result were not passed on
abbrev pub Breaks : Told → Told → Action → Type 0
Breaks before after job = (after ≡ before) ⊎ ((left : List Action) × AnswersJob before after job left)

-- the same of some job, or there was none
abbrev pub Stops : Told → Told → Type 0
Stops before after = (after ≡ before) ⊎ ((last : Action) × (left : List Action) × AnswersJob before after last left)
