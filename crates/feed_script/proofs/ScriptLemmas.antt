-- The text of a script, computed line by line.
use Rattle.std.proofs.Common.{◌≡◌, ℕ, Bool, true, false, cond, is_some, List, [], ◌∷◌, ◌++◌, length, refl, ap, ◌∙◌, sym}
use Rattle.bpf_check.specs.declared.checked.CheckFault.{CheckFault}
use Rattle.filter_slots.specs.declared.slot.Slot.{Slot}
use Rattle.node_words.specs.declared.action.Action.{Action}
use Rattle.plain_node.specs.Settings.{Setup, setup_fault}
use Rattle.node_core.specs.Happening.{Happening}
use Rattle.node_core.specs.Run.{answers}
use Rattle.plain_node.specs.PlainNode.{PlainNode}
use Rattle.node_core.specs.State.{State, opening, HasTaken, state_after, actions_at}
use Rattle.script_lines.specs.ScriptLine.{ScriptLine, Occurrence, sets, goes, happens, refuses, inquires, blank, wrong, script_of}
use Rattle.feed_script.specs.Printed.{actions_text, refuse_text, stats_text}
use Rattle.feed_script.specs.Script.{setting, started, well_placed, usual, set_by, settings_from, after_go, Fixed, fixed_by, is_misplaced, event_of, events_of, woven, run_text, text}
use Rattle.feed_script.specs.Ahead.{preparing, running, text_ahead}

-- the laws of a node that takes events one after another
pub record NodeLaws : Type 0 where
  pub taken : (old : State) (event : Happening) → HasTaken old (state_after old event) (event ∷ []) (actions_at old event ∷ [])
  pub more : (old mid new : State) (events : List Happening) (event : Happening) (outs : List (List Action)) (actions : List Action)
      → HasTaken old mid events outs → HasTaken mid new (event ∷ []) (actions ∷ []) → HasTaken old new (events ++ event ∷ []) (outs ++ actions ∷ [])
  pub sent : (old : State) (event : Happening) (events : List Happening)
      → answers old.plain old.filters (event ∷ events) ≡ actions_at old event ∷ answers (state_after old event).plain (state_after old event).filters events

-- an event, in place or not: the output line by line equals the woven output, if it does for the lines after the event
ahead-event : (laws : NodeLaws) (start : State) (own : Fixed) (past : List Happening) (outs : List (List Action)) (mid : State) (o : Occurrence) (ls : List ScriptLine) (misplaced : Bool) → HasTaken start mid past outs
    → text_ahead (running own (state_after mid (event_of own o))) ls
    ≡ woven start own (past ++ event_of own o ∷ []) (well_placed (started own.neighbours) ls) (answers (state_after mid (event_of own o)).plain (state_after mid (event_of own o)).filters (events_of own (well_placed (started own.neighbours) ls)))
    → cond misplaced [] (actions_text (state_after mid (event_of own o)).plain.fetches.list (actions_at mid (event_of own o)) ++ text_ahead (running own (state_after mid (event_of own o))) ls)
    ≡ woven start own past (cond misplaced [] (happens o ∷ well_placed (started own.neighbours) ls)) (answers mid.plain mid.filters (events_of own (cond misplaced [] (happens o ∷ well_placed (started own.neighbours) ls))))
ahead-event laws start own past outs mid o ls true h next = refl
ahead-event laws start own past outs mid o ls false h next =
    let e = event_of own o in
    let rest = well_placed (started own.neighbours) ls in
    let acts = actions_at mid e in
    let took = laws.more start mid (state_after mid e) past e outs acts h (laws.taken mid e) in
    let later = woven start own (past ++ e ∷ []) rest (answers (state_after mid e).plain (state_after mid e).filters (events_of own rest)) in
    ap (λ t. actions_text (state_after mid e).plain.fetches.list acts ++ t) next
    ∙ ap (λ (node : PlainNode). actions_text node.fetches.list acts ++ later) took.plain
    ∙ ap (woven start own past (happens o ∷ rest)) (sym (laws.sent mid e (events_of own rest)))

-- the same for a rejected program
ahead-refusal : (start : State) (own : Fixed) (past : List Happening) (mid : State) (slot : Slot) (fault : CheckFault) (ls : List ScriptLine) (misplaced : Bool)
    → text_ahead (running own mid) ls ≡ woven start own past (well_placed (started own.neighbours) ls) (answers mid.plain mid.filters (events_of own (well_placed (started own.neighbours) ls)))
    → cond misplaced [] (refuse_text fault ++ text_ahead (running own mid) ls)
    ≡ woven start own past (cond misplaced [] (refuses slot fault ∷ well_placed (started own.neighbours) ls)) (answers mid.plain mid.filters (events_of own (cond misplaced [] (refuses slot fault ∷ well_placed (started own.neighbours) ls))))
ahead-refusal start own past mid slot fault ls true next = refl
ahead-refusal start own past mid slot fault ls false next = ap (λ t. refuse_text fault ++ t) next

-- the woven output of all events equals the output line by line
ahead-running : (laws : NodeLaws) (start : State) (own : Fixed) (past : List Happening) (outs : List (List Action)) (mid : State) (ls : List ScriptLine) → HasTaken start mid past outs
    → text_ahead (running own mid) ls ≡ woven start own past (well_placed (started own.neighbours) ls) (answers mid.plain mid.filters (events_of own (well_placed (started own.neighbours) ls)))
ahead-running laws start own past outs mid [] h = refl
ahead-running laws start own past outs mid (sets x ∷ ls) h = refl
ahead-running laws start own past outs mid (goes ∷ ls) h = refl
ahead-running laws start own past outs mid (happens o ∷ ls) h =
    let e = event_of own o in
    ahead-event laws start own past outs mid o ls (is_misplaced (started own.neighbours) (happens o)) h
    (ahead-running laws start own (past ++ e ∷ []) (outs ++ actions_at mid e ∷ []) (state_after mid e) ls
    (laws.more start mid (state_after mid e) past e outs (actions_at mid e) h (laws.taken mid e)))
ahead-running laws start own past outs mid (refuses slot fault ∷ ls) h =
    ahead-refusal start own past mid slot fault ls (is_misplaced (started own.neighbours) (refuses slot fault))
    (ahead-running laws start own past outs mid ls h)
ahead-running laws start own past outs mid (inquires ∷ ls) h =
    let rest = well_placed (started own.neighbours) ls in
    ap (λ t. stats_text mid.stats ++ t) (ahead-running laws start own past outs mid ls h)
    ∙ ap (λ k. stats_text k ++ woven start own past rest (answers mid.plain mid.filters (events_of own rest))) h.stats
ahead-running laws start own past outs mid (blank ∷ ls) h = ahead-running laws start own past outs mid ls h
ahead-running laws start own past outs mid (wrong ∷ ls) h = refl

-- before the first event
taken-nothing : (s : State) → HasTaken s s [] []
taken-nothing s = record { plain = refl; filters = refl; stats = refl; sent = refl }

-- the start, if the settings are valid, or else a wrong line
ahead-go : (laws : NodeLaws) (s : Setup) (ls : List ScriptLine) (faulty : Bool)
    → cond faulty [] ([] ++ text_ahead (running (fixed_by s) (opening s)) ls)
    ≡ run_text (settings_from s (cond faulty [] (goes ∷ well_placed (started (length s.neighbours)) ls))) (after_go (cond faulty [] (goes ∷ well_placed (started (length s.neighbours)) ls)))
ahead-go laws s ls false = ahead-running laws (opening s) (fixed_by s) [] [] (opening s) ls (taken-nothing (opening s))
ahead-go laws s ls true = refl

ahead-setup : (laws : NodeLaws) (s : Setup) (ls : List ScriptLine)
    → text_ahead (preparing s) ls ≡ run_text (settings_from s (well_placed (setting s) ls)) (after_go (well_placed (setting s) ls))
ahead-setup laws s [] = refl
ahead-setup laws s (sets x ∷ ls) = ahead-setup laws (set_by s x) ls
ahead-setup laws s (goes ∷ ls) = ahead-go laws s ls (is_some (setup_fault s))
ahead-setup laws s (happens o ∷ ls) = refl
ahead-setup laws s (refuses slot fault ∷ ls) = refl
ahead-setup laws s (inquires ∷ ls) = refl
ahead-setup laws s (blank ∷ ls) = ahead-setup laws s ls
ahead-setup laws s (wrong ∷ ls) = refl

-- the output of a new engine is the text of the script
pub text_ahead-fresh : NodeLaws → (b : List ℕ) → text_ahead (preparing usual) (script_of b) ≡ text b
text_ahead-fresh laws b = ahead-setup laws usual (script_of b)
