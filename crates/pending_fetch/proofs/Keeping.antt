-- The fields of a fetch that a reply, the end of its round and the next attempt leave unchanged.
use Rattle.std.proofs.Common.{◌≡◌, ◌+◌, true, false, eqb, refl, if◌then◌else◌}
use Rattle.peer_select.specs.declared.reply.Reply.{Reply}
use Rattle.peer_select.specs.Poll.{Poll, reply_added, ended}
use Rattle.pending_fetch.specs.Fetches.{PendingFetch, with_reply, with_end, with_next}
use Rattle.pending_fetch.proofs.Words.{Keeps}

pub next_waiters : (f : PendingFetch) → (with_next f).waiters ≡ f.waiters
next_waiters f = elim (eqb f.attempt 65535) as (λ v. (if v then f else record f { attempt = f.attempt + 1 }).waiters ≡ f.waiters) [ true ↦ refl | false ↦ refl ]

pub next_number : (f : PendingFetch) → (with_next f).number ≡ f.number
next_number f = elim (eqb f.attempt 65535) as (λ v. (if v then f else record f { attempt = f.attempt + 1 }).number ≡ f.number) [ true ↦ refl | false ↦ refl ]

next_start : (f : PendingFetch) → (with_next f).round.start ≡ f.round.start
next_start f = elim (eqb f.attempt 65535) as (λ v. (if v then f else record f { attempt = f.attempt + 1 }).round.start ≡ f.round.start) [ true ↦ refl | false ↦ refl ]

pub next_round : (f : PendingFetch) → (with_next f).round ≡ f.round
next_round f = elim (eqb f.attempt 65535) as (λ v. (if v then f else record f { attempt = f.attempt + 1 }).round ≡ f.round) [ true ↦ refl | false ↦ refl ]

pub Keeps-next : Keeps with_next
Keeps-next = record { number = next_number; start = next_start; waiters = next_waiters }

pub Keeps-reply : (reply : Reply) → ((poll : Poll) (reply : Reply) → (reply_added poll reply).start ≡ poll.start) → Keeps (with_reply reply)
Keeps-reply reply same = record { number = λ f. refl; start = λ f. same f.round reply; waiters = λ f. refl }

pub Keeps-end : ((poll : Poll) → (ended poll).start ≡ poll.start) → Keeps with_end
Keeps-end same = record { number = λ f. refl; start = λ f. same f.round; waiters = λ f. refl }
