-- The effect of joining, given the shared fetch for the key.
use Rattle.std.proofs.Common.{◌≡◌, ℕ, true, false, List, [], ◌∷◌, Option, Some, None, Result, Ok, Err, refl, ap, ◌∙◌, if◌then◌else◌}
use Rattle.std.specs.Prelude.{is_some}
use Rattle.std.specs.List.{list_all}
use Rattle.neighbours.specs.declared.neighbour.Neighbour.{Neighbour}
use Rattle.pending_fetch.specs.declared.fault.JoinFault.{JoinFault}
use Rattle.pending_fetch.specs.declared.fault.JoinFault.TheVariants.{Full}
use Rattle.pending_fetch.specs.Fetches.{PendingFetch, waits, changed, with_waiter}
use Rattle.pending_fetch.specs.Calls.{is_crowded, join_answer, join_fault, join_list}
use Rattle.node_words.specs.declared.action.Action.TheVariants.{Serve}
use Rattle.node_words.specs.declared.action.Answer.TheVariants.{Fail}
use Rattle.plain_node.specs.PlainNode.{PlainNode, at_clock, with_fetches}
use Rattle.plain_node.specs.Requests.{fails, join_step, looked_up, wait_step}
use Rattle.plain_node.specs.Fitting.{is_of, joining}
use Rattle.plain_node.proofs.Keeps.{all_changed}

pub fitting_joined : (neighbours : List Neighbour) (clock client : ℕ) (list : List PendingFetch) (o : Option ℕ) (fault : Option JoinFault) → list_all (is_of neighbours clock) list ≡ true → list_all (is_of neighbours clock) (join_list client list o fault) ≡ true
fitting_joined neighbours clock client list None fault h = h
fitting_joined neighbours clock client list (Some n) (Some fault) h = h
fitting_joined neighbours clock client list (Some n) None h = all_changed (is_of neighbours clock) (with_waiter client) n list (λ f k. k) h

crowded_is : (client : ℕ) (list : List PendingFetch) → waits client list ≡ false → join_fault client list ≡ (if is_crowded list then Some Full else None)
crowded_is client list w = rw w refl

pub joined_node : (node : PlainNode) (client : ℕ) (o : Option ℕ) → waits client node.fetches.list ≡ false → with_fetches node (join_list client node.fetches.list o (join_fault client node.fetches.list)) ≡ (joining node client o).0
unfolding join_step
joined_node node client None w = refl
joined_node node client (Some n) w =
    let list = node.fetches.list in
    ap (λ (fault : Option JoinFault). with_fetches node (join_list client list (Some n) fault)) (crowded_is client list w)
    ∙ elim (is_crowded list) as (λ v. with_fetches node (join_list client list (Some n) (if v then Some Full else None)) ≡ (if v then fails node client 503 else (with_fetches node (changed (with_waiter client) n list), [])).0) [
      | true ↦ refl
      | false ↦ refl
    ]

pub found_none : (o : Option ℕ) (fault : Option JoinFault) → None ≡ join_answer o fault → false ≡ is_some o
found_none None fault e = refl
found_none (Some n) None e = absurd cc
found_none (Some n) (Some fault) e = absurd cc

pub found_some : (o : Option ℕ) (fault : Option JoinFault) (a : Result (Unit {0}) JoinFault) → Some a ≡ join_answer o fault → true ≡ is_some o
found_some None fault a e = absurd cc
found_some (Some n) fault a e = refl

pub told_none : (node : PlainNode) (client : ℕ) (o : Option ℕ) (fault : Option JoinFault) → None ≡ join_answer o fault → [] ≡ (joining node client o).1
told_none node client None fault e = refl
told_none node client (Some n) None e = absurd cc
told_none node client (Some n) (Some fault) e = absurd cc

pub told_ok : (node : PlainNode) (client : ℕ) (o : Option ℕ) (u : Unit {0}) → waits client node.fetches.list ≡ false → Some (Ok u) ≡ join_answer o (join_fault client node.fetches.list) → [] ≡ (joining node client o).1
unfolding join_step
told_ok node client None u w e = absurd cc
told_ok node client (Some n) u w e =
    let list = node.fetches.list in
    (elim (is_crowded list) as (λ v. Some (Ok u) ≡ join_answer (Some n) (if v then Some Full else None) → [] ≡ (if v then fails node client 503 else (with_fetches node (changed (with_waiter client) n list), [])).1) [
      | true ↦ λ h. absurd cc
      | false ↦ λ h. refl
    ]) (e ∙ ap (join_answer (Some n)) (crowded_is client list w))

pub told_err : (node : PlainNode) (client : ℕ) (o : Option ℕ) (fault : JoinFault) → waits client node.fetches.list ≡ false → Some (Err fault) ≡ join_answer o (join_fault client node.fetches.list) → (Serve client (Fail 503) ∷ []) ≡ (joining node client o).1
unfolding join_step
told_err node client None fault w e = absurd cc
told_err node client (Some n) fault w e =
    let list = node.fetches.list in
    (elim (is_crowded list) as (λ v. Some (Err fault) ≡ join_answer (Some n) (if v then Some Full else None) → (Serve client (Fail 503) ∷ []) ≡ (if v then fails node client 503 else (with_fetches node (changed (with_waiter client) n list), [])).1) [
      | true ↦ λ h. refl
      | false ↦ λ h. absurd cc
    ]) (e ∙ ap (join_answer (Some n)) (crowded_is client list w))

-- joining and then looking up the store equals waiting for a shared fetch
pub waited : (old : PlainNode) (client now : ℕ) (key : List ℕ) (o : Option ℕ) → true ≡ is_some o → (looked_up (at_clock (joining old client o).0 now) key, (joining old client o).1) ≡ wait_step (looked_up (at_clock old now) key) client key o
unfolding join_step
waited old client now key None t = absurd cc
waited old client now key (Some n) t =
    elim (is_crowded old.fetches.list) as (λ v. (looked_up (at_clock (if v then fails old client 503 else (with_fetches old (changed (with_waiter client) n old.fetches.list), [])).0 now) key, (if v then fails old client 503 else (with_fetches old (changed (with_waiter client) n old.fetches.list), [])).1) ≡ (if v then fails (looked_up (at_clock old now) key) client 503 else (with_fetches (looked_up (at_clock old now) key) (changed (with_waiter client) n old.fetches.list), []))) [
      | true ↦ refl
      | false ↦ refl
    ]
