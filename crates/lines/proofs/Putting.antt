-- One text behind another: `put-put`, two texts are put as their join is, and `behind-behind`, so is the place behind them.
use Rattle.std.proofs.Common.{◌≡◌, ℕ, ◌+◌, ◌-◌, ◌<◌, ◌≤◌, min, Bool, true, false, leb, List, [], ◌++◌, length, take, drop, sym, refl, ap}
use Rattle.std.proofs.Common.{◌∙◌, ap₂, append_assoc, append-nil, arith, leb→le, length-append, length-drop, drop_of_length-le, length-take}
use Rattle.std.proofs.Common.{take_all, drop-drop}
use lib.Dec.{nleb→lt}
use lib.Seq.{take-append_seam, drop-append_seam, take-append-le, take-append-add, drop-append-add}
use Rattle.slices.proofs.Parts.{take_within, drop-within}
use Rattle.slices.specs.AtFront.{at_front}
use Rattle.slices.proofs.AtFront.{length-at_front, at_front-room}
use Rattle.lines.specs.Code.Putting.{put, behind, Put}

-- ---- at the front

front-nil : (text : List ℕ) → at_front text [] ≡ []
unfolding at_front
front-nil text = drop_of_length-le [] {i = length text} (omega arith)

-- where there is no room behind the first text
front-full : (a out : List ℕ) → length out ≤ length a → at_front a out ≡ take (length out) a
unfolding at_front
front-full a out h = rw (drop_of_length-le out h) (append-nil (take (length out) a))

front-more : (a b out : List ℕ) (m : ℕ) → m ≡ min (length a) (length out) →
    take m (at_front a out) ++ at_front b (drop m (at_front a out)) ≡ at_front (a ++ b) out
unfolding at_front
front-more a b out m e = go (leb (length a) (length out)) refl
  where
    room : length a ≤ length out → take m (at_front a out) ++ at_front b (drop m (at_front a out)) ≡ at_front (a ++ b) out
    room h =
        let all : m ≡ length a = omega arith in
        let left : List ℕ = drop (length a) out in
        let front : at_front a out ≡ a ++ left = at_front-room a out h in
        let split : length a + length left ≡ length out = omega (arith, length-drop (length a) out) in
        rw (front, all, take-append_seam a left, drop-append_seam a left)
        (sym (append_assoc a (take (length left) b) (drop (length b) left))
        ∙ ap₂ ◌++◌ (sym (take-append-add a b (length left)) ∙ ap (λ (k : ℕ). take k (a ++ b)) split)
        (drop-drop (length b) (length a) out ∙ ap (λ (k : ℕ). drop k out) (sym (length-append a b))))

    full : length out < length a → take m (at_front a out) ++ at_front b (drop m (at_front a out)) ≡ at_front (a ++ b) out
    full h =
        let all : m ≡ length out = omega arith in
        let front : at_front a out ≡ take (length out) a = front-full a out (omega arith) in
        let long : length (take (length out) a) ≡ length out = omega (arith, length-take (length out) a) in
        let kept : take m (take (length out) a) ≡ take (length out) a = take_all m (take (length out) a) (omega arith) in
        let past : drop m (take (length out) a) ≡ [] = drop_of_length-le (take (length out) a) {i = m} (omega arith) in
        rw (front, kept, past, front-nil b)
        (append-nil (take (length out) a)
        ∙ sym (take-append-le (length out) a b (omega arith))
        ∙ sym (front-full (a ++ b) out (omega (arith, length-append a b))))

    go : (t : Bool) → leb (length a) (length out) ≡ t → take m (at_front a out) ++ at_front b (drop m (at_front a out)) ≡ at_front (a ++ b)
        out
    go true p = room (leb→le (length a) (length out) (rw p tt))
    go false p = full (nleb→lt (length a) (length out) (rw p tt))

-- ---- from a place on

pub length-put : (at : ℕ) (text out : List ℕ) → length (put at text out) ≡ length out
unfolding put
length-put at text out =
    length-append (take at out) (at_front text (drop at out))
    ∙ ap₂ ◌+◌ (length-take at out) (length-at_front text (drop at out) ∙ length-drop at out)
    ∙ omega arith

pub put-put : (at : ℕ) (a b out : List ℕ) → put (behind at a out) b (put at a out) ≡ put at (a ++ b) out
unfolding put
put-put at a b out =
    let before : List ℕ = take at out in
    let rest : List ℕ = drop at out in
    let m : ℕ = min (length a) (length rest) in
    let place : behind at a out ≡ length before + m = omega (arith, length-take at out, length-drop at out) in
    rw (place, take-append-add before (at_front a rest) m, drop-append-add before (at_front a rest) m)
    (append_assoc before (take m (at_front a rest)) (at_front b (drop m (at_front a rest)))
    ∙ ap (λ (l : List ℕ). before ++ l) (front-more a b rest m refl))

pub behind-behind : (at : ℕ) (a b out : List ℕ) → behind (behind at a out) b (put at a out) ≡ behind at (a ++ b) out
behind-behind at a b out = omega (arith, length-put at a out, length-append a b)

-- a part of the output, lent from a place within it to its end, that comes back with the text at its front
pub put-part : (at : ℕ) (text out : List ℕ) (start : ℕ) (part : List ℕ) → start ≡ min at (length out) →
    part ≡ at_front text (take (length out - start) (drop start out)) →
    take start out ++ (part ++ drop (length out - start) (drop start out)) ≡ put at text out
unfolding put
put-part at text out start part e p =
    let rest : List ℕ = drop start out in
    let size : length rest ≤ length out - start = omega (arith, length-drop start out) in
    let all : take (length out - start) rest ≡ rest = take_all (length out - start) rest size in
    let past : drop (length out - start) rest ≡ [] = drop_of_length-le rest {i = length out - start} size in
    rw (past, append-nil part, p, all, e, take_within at out, drop-within at out)

-- ---- what a function that puts a text ends with

-- one text, and then another behind it
pub then : (at : ℕ) (a b out : List ℕ) {r s : ℕ} {mid left : List ℕ} → Put at a out r mid → Put r b mid s left → Put at (a ++ b) out s left
then at a b out p q = (q.0 ∙ rw (p.0, p.1) (behind-behind at a b out), q.1 ∙ rw (p.0, p.1) (put-put at a b out))

-- the same text under another name
pub renamed : (at : ℕ) (a b out : List ℕ) {r : ℕ} {left : List ℕ} → a ≡ b → Put at a out r left → Put at b out r left
renamed at a b out e p = rw (← e) p

-- an output with room has the whole text, up to the place behind it
pub put_whole : (text out : List ℕ) → length text ≤ length out → take (behind 0 text out) (put 0 text out) ≡ text
unfolding put
put_whole text out h =
    let all : behind 0 text out ≡ length text = omega arith in
    rw (at_front-room text out h, all) (take-append_seam text (drop (length text) out))
