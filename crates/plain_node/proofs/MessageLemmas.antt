-- The effect of a reply on the fetch with its number, and the form of each reply to a query.
use Rattle.std.proofs.Common.{◌≡◌, ℕ, ◌+◌, ◌-◌, Bool, true, false, cond, eqb, List, [], ◌∷◌, length, Some, refl, ap, sym, ◌∙◌, arith, if◌then◌else◌, not, ◌||◌, ◌++◌, length-append}
use Rattle.std.specs.Option.{is_some}
use Rattle.std.proofs.lemmas.Bool.Decides.{nat_tests}
use Rattle.node_terms.specs.declared.ends.End.{End}
use Rattle.icp_packet.specs.declared.message.Opcode.{Opcode}
use Rattle.icp_packet.specs.declared.message.Opcode.TheVariants.{Hit, Miss, MissNoFetch, Error, Denied}
use Rattle.icp_packet.specs.Message.{url_only, payload, spelling, HasNoZero, FitsOpcode}
use Rattle.peer_select.specs.declared.reply.Kind.{Kind}
use Rattle.peer_select.specs.declared.reply.Reply.{Reply}
use Rattle.pending_fetch.specs.Fetches.{PendingFetch, fetch_of, changed, with_reply}
use Rattle.plain_node.specs.Settings.{is_allowed}
use Rattle.plain_node.specs.PlainNode.{PlainNode, with_fetches}
use Rattle.plain_node.specs.Sources.{decision_step}
use Rattle.object_store.specs.Store.{fresh_at}
use Rattle.std.specs.List.{list_all}
use Rattle.neighbours.specs.declared.neighbour.Neighbour.{Neighbour}
use Rattle.peer_select.specs.Poll.{decided, has_reply}
use Rattle.plain_node.specs.Fitting.{is_of}
use Rattle.plain_node.proofs.Keeps.{fetch_changed, all_changed}
use Rattle.plain_node.specs.Messages.{is_http, reply_code, timed, with_time, counted_step}

-- the body of each of the five opcodes is a URL
fits-any : (denied other fresh closed : Bool) (url : List ℕ) → HasNoZero url → FitsOpcode (cond denied Denied (cond other Error (cond fresh Hit (cond closed MissNoFetch Miss)))) (url_only url)
fits-any true other fresh closed url whole = whole
fits-any false true fresh closed url whole = whole
fits-any false false true closed url whole = whole
fits-any false false false true url whole = whole
fits-any false false false false url whole = whole

pub reply_code-fits : (node : PlainNode) (from : End) (url : List ℕ) → HasNoZero url → FitsOpcode (reply_code node from url) (url_only url)
unfolding reply_code
reply_code-fits node from url whole =
    fits-any (not (is_allowed node.settings from.addr)) (not (is_http url)) (is_some (fresh_at url node.clock node.store)) node.settings.miss_nofetch url whole

number_is : (a b : ℕ) → eqb a b ≡ true → a ≡ b
number_is a b h = grind (arith, nat_tests)

-- the fetch found by a number has that number
pub fetch_of-number : (number : ℕ) (list : List PendingFetch) (f : PendingFetch) → fetch_of number list ≡ Some f → f.number ≡ number
fetch_of-number number [] f e = absurd cc
fetch_of-number number (g ∷ list) f e =
    elim (eqb g.number number) as (λ v. eqb g.number number ≡ v → (if v then Some g else fetch_of number list) ≡ Some f → f.number ≡ number) [
      | true ↦ λ t s. let same : g ≡ f = cc in sym (ap (λ (h : PendingFetch). h.number) same) ∙ number_is g.number number t
      | false ↦ λ t s. fetch_of-number number list f s
    ] refl e

-- a reply that counts equals adding it and then deciding
pub counted_at : (old sampled added : PlainNode) (number n start : ℕ) (kind : Kind) (fetch : PendingFetch) →
    sampled ≡ timed old n (old.clock - start) → added ≡ with_fetches sampled (changed (with_reply (with_time sampled n kind)) number sampled.fetches.list) →
    fetch_of number old.fetches.list ≡ Some fetch → fetch.round.start ≡ start →
    (fetch_of number added.fetches.list ≡ Some (with_reply (with_time sampled n kind) fetch)) × (decision_step added (with_reply (with_time sampled n kind) fetch) ≡ counted_step old n kind (Some fetch))
unfolding counted_step
counted_at old sampled added number n start kind fetch s a found began =
    let there : fetch_of number sampled.fetches.list ≡ Some fetch = ap (λ (p : PlainNode). fetch_of number p.fetches.list) s ∙ found in
    let named : fetch.number ≡ number = fetch_of-number number old.fetches.list fetch found in (
      rw a (fetch_changed (with_reply (with_time sampled n kind)) number sampled.fetches.list fetch (λ g. refl) there),
      rw (a, s, ← began, ← named) refl,
    )

-- the length of the message of one URL
pub length-spelling : (op : Opcode) (number : ℕ) (sender url : List ℕ) → length sender ≡ 4 →
    length (spelling (record { op = op; number = number; options = 0; option_data = 0; sender = sender; body = url_only url })) ≡ length url + 21
length-spelling op number sender url four = omega (arith, length-append sender (payload (url_only url)), length-append {A = ℕ}, four)

of_reply : (neighbours : List Neighbour) (clock : ℕ) (reply : Reply) (f : PendingFetch) → is_of neighbours clock f ≡ true → is_of neighbours clock (with_reply reply f) ≡ true
of_reply neighbours clock reply f h =
    elim (decided f.round || has_reply f.round.replies reply.n) as (λ v. is_of neighbours clock (record f { round = if v then f.round else record f.round { replies = f.round.replies ++ reply ∷ [] } }) ≡ true) [
      | true ↦ h
      | false ↦ h
    ]

-- a reply keeps each round's neighbours and start
pub fitting_reply : (neighbours : List Neighbour) (clock number : ℕ) (reply : Reply) (list : List PendingFetch) → list_all (is_of neighbours clock) list ≡ true → list_all (is_of neighbours clock) (changed (with_reply reply) number list) ≡ true
fitting_reply neighbours clock number reply list all = all_changed (is_of neighbours clock) (with_reply reply) number list (of_reply neighbours clock reply) all
