-- The theorem of the trace: the machine says the trace of its input, whatever pieces that comes in.
use mathlib.Core.Path.{◌≡◌, refl, sym, ap, ◌∙◌}
use mathlib.Core.List.{List, [], ◌∷◌, ◌++◌, append_assoc, append-nil}
use Rattle.std.specs.Prelude.{Option, Some, None}
use Prim.Native.Nat.{ℕ, ◌+◌}
use native.Mathlib.Omega.{arith}
use lib.Dec.{eqb}
use lib.ListN.{length}
use borrow.Author.Tests.{ne_eqb}
use Rattle.lists.proofs.Tests.{by}
use Rattle.rules.specs.declared.settings.Settings.{Settings}
use Rattle.rules.specs.State.{State}
use Rattle.rules.specs.Event.{EventFields, event_of}
use Rattle.decimal.specs.Decimal.{and_then}
use Rattle.text.specs.Lines.{line_feed, read_event, read_settings}
use Rattle.answers.specs.Answers.{header}
use Rattle.lines.specs.Lines.{kept_bytes, lines_from, lines}
use Rattle.lines.proofs.Kept.{kept_fields, kept_settings, kept_none, kept_some, kept_more}
use Rattle.traces.specs.Trace.{can_trace, refused, event_or_unknown, event_in, outcome, answer_text, answers, with_settings, trace_lines}
use Rattle.traces.specs.Trace.{trace_text}
use Rattle.traces.specs.Machine.{Phase, opening, running, stopped, Machine, Fed, settings_said, settings_next, line_said, line_next}
use Rattle.traces.specs.Machine.{at_phase, feed, start, ended, last_said}
use Rattle.traces.proofs.Machine.{feed_append}

-- ---- a cut line is answered as the whole line is
kept_event : (S : ℕ) (l : List ℕ) → event_in S (kept_bytes l) ≡ event_in S l
unfolding event_in read_event
kept_event S l = ap (λ (o : Option EventFields). event_or_unknown (and_then o (λ p. Some (event_of p)))) (kept_fields S l)

kept_said : (p : Phase) (l : List ℕ) → line_said p (kept_bytes l) ≡ line_said p l
unfolding line_said
kept_said opening l = ap settings_said (kept_settings l)
kept_said (running n s) l = rw (kept_event s.settings.size l)
kept_said stopped l = refl

kept_next : (p : Phase) (l : List ℕ) → line_next p (kept_bytes l) ≡ line_next p l
unfolding line_next
kept_next opening l = ap settings_next (kept_settings l)
kept_next (running n s) l = rw (kept_event s.settings.size l)
kept_next stopped l = refl

-- ---- what is said of all lines
abbrev in_phase : Phase → List (List ℕ) → List ℕ
in_phase p [] = ended p
in_phase p (l ∷ ls) = line_said p l ++ in_phase (line_next p l) ls

whole_line : (p : Phase) (l : List ℕ) (ls : List (List ℕ)) → line_said p (kept_bytes l) ++ in_phase (line_next p (kept_bytes l)) ls ≡ in_phase p (l ∷ ls)
whole_line p l ls = rw (kept_said p l, kept_next p l)

last_line : (p : Phase) (begun : List ℕ) → last_said (at_phase p (kept_bytes begun)) ≡ in_phase p (lines_from begun [])
unfolding last_said lines_from
last_line p [] = rw kept_none
last_line p (b ∷ l) =
    rw (ne_eqb (length (kept_bytes (b ∷ l))) 0 (λ e. omega (arith, kept_some (b ∷ l) (omega arith))), ne_eqb (length (b ∷ l)) 0 (λ e. omega arith))
    (whole_line p (b ∷ l) [])

-- bytes that come after the beginning of a line
abbrev all_said : Machine → List ℕ → List ℕ
all_said m input = (feed m input).said ++ last_said (feed m input).after

go_on : (input : List ℕ) (p : Phase) (begun : List ℕ) → all_said (at_phase p (kept_bytes begun)) input ≡ in_phase p (lines_from begun input)
unfolding feed lines_from
go_on [] p begun = last_line p begun
go_on (b ∷ input) p begun =
    let h = kept_bytes begun in
    let l = begun ++ (b ∷ []) in
    let cut : kept_bytes (h ++ (b ∷ [])) ≡ kept_bytes l = kept_more begun (b ∷ []) in
    by (eqb b line_feed)
    (λ y. rw (y, append_assoc, cut) (ap (λ (h : List ℕ). line_said p (kept_bytes l) ++ all_said (at_phase (line_next p (kept_bytes l)) h) input) (sym kept_none)
    ∙ ap (λ (t : List ℕ). line_said p (kept_bytes l) ++ t) (go_on input (line_next p (kept_bytes l)) [])
    ∙ whole_line p l (lines_from [] input)))
    (λ n. rw (n, cut) (go_on input p l))

-- ---- the phases are the trace
run_answers : (ls : List (List ℕ)) (n : ℕ) (s : State) → in_phase (running n s) ls ≡ answers n s ls
unfolding answers line_said line_next ended
run_answers [] n s = refl
run_answers (l ∷ ls) n s = ap (λ (t : List ℕ). answer_text n (outcome s l) ++ t) (run_answers ls (n + 1) (outcome s l).after)

silent : (ls : List (List ℕ)) → in_phase stopped ls ≡ []
unfolding line_said line_next ended
silent [] = refl
silent (l ∷ ls) = silent ls

by_settings : (o : Option Settings) (ls : List (List ℕ)) → settings_said o ++ in_phase (settings_next o) ls ≡ with_settings o ls
unfolding with_settings
by_settings None ls = ap (λ (t : List ℕ). refused ++ t) (silent ls) ∙ append-nil refused
by_settings (Some c) ls =
    by (can_trace c) (λ y. rw y (run_answers ls 1 _)) (λ n. rw n (ap (λ (t : List ℕ). refused ++ t) (silent ls) ∙ append-nil refused))

from_opening : (ls : List (List ℕ)) → in_phase opening ls ≡ trace_lines ls
unfolding trace_lines line_said line_next ended
from_opening [] = refl
from_opening (l ∷ ls) = by_settings (read_settings l) ls

-- THEOREM. The header, what the machine says of the bytes of its input, and what it says at the end, are the trace.
pub machine_traces : (input : List ℕ) → header ++ ((feed start input).said ++ last_said (feed start input).after) ≡ trace_text input
unfolding trace_text lines
machine_traces input =
    ap (λ (t : List ℕ). header ++ t)
    (ap (λ (h : List ℕ). all_said (at_phase opening h) input) (sym kept_none) ∙ go_on input opening [] ∙ from_opening (lines_from [] input))

-- ---- the input in pieces, of any length
abbrev pub together : List (List ℕ) → List ℕ
together [] = []
together (x ∷ xs) = x ++ together xs

-- what is said of each piece as it comes, and at the end
abbrev pub pieces_said : Machine → List (List ℕ) → List ℕ
pieces_said m [] = last_said m
pieces_said m (x ∷ xs) = (feed m x).said ++ pieces_said (feed m x).after xs

by_pieces : (xs : List (List ℕ)) (m : Machine) → pieces_said m xs ≡ all_said m (together xs)
unfolding feed
by_pieces [] m = refl
by_pieces (x ∷ xs) m =
    ap (λ (t : List ℕ). (feed m x).said ++ t) (by_pieces xs (feed m x).after)
    ∙ sym (append_assoc (feed m x).said _ _) ∙ ap (λ (f : Fed). f.said ++ last_said f.after) (sym (feed_append x (together xs) m))

-- THEOREM. Whatever pieces the input comes in, the header, what is said of each piece and what is said at the end are the trace of the whole.
pub pieces_trace : (xs : List (List ℕ)) → header ++ pieces_said start xs ≡ trace_text (together xs)
pieces_trace xs = ap (λ (t : List ℕ). header ++ t) (by_pieces xs start) ∙ machine_traces (together xs)
