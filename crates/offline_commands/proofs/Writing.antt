-- Writing known bytes piece by piece.
use Rattle.std.proofs.Common.{◌≡◌, ◌-◌, ℕ, List, [], ◌++◌, Option, length, take, drop, refl, sym, ap, subst, ◌∙◌, append_assoc, append-nil, take-append-drop}
use Rattle.std.proofs.lemmas.List.{take_rest}
use Rattle.std.specs.Io.KnownBytes.{Appends, Keeps}
use Rattle.std.proofs.KnownBytes.{Appends-nil, Appends-trans, Appends-kept}
use Rattle.offline_commands.specs.Writing.{HasLeft, AppendsPart}

pub left_all : (known : Option (List ℕ)) (text : List ℕ) → HasLeft known known text text
left_all known text = record { written = []; split = refl; grown = Appends-nil known }

moves_front : (text written left : List ℕ) (n : ℕ) → text ≡ written ++ left → text ≡ (written ++ take n left) ++ take (length left - n) (drop n left)
moves_front text written left n e =
    e ∙ ap (λ l. written ++ l) (sym (take-append-drop n left)) ∙ sym (append_assoc written (take n left) (drop n left)) ∙ ap (λ l. (written ++ take n left) ++ l) (sym (take_rest left n))

pub left_less : (first between last : Option (List ℕ)) (text left : List ℕ) (n : ℕ) → HasLeft first between text left → Appends between last (take n left) → HasLeft first last text (take (length left - n) (drop n left))
left_less first between last text left n h k =
    record { written = h.written ++ take n left; split = moves_front text h.written left n h.split; grown = Appends-trans first between last h.written (take n left) h.grown k }

pub left_kept : (first between last : Option (List ℕ)) (text left : List ℕ) → HasLeft first between text left → Keeps between last → HasLeft first last text left
left_kept first between last text left h k = record { written = h.written; split = h.split; grown = Appends-kept first between last h.written h.grown k }

pub left_none : (first last : Option (List ℕ)) (text left : List ℕ) → HasLeft first last text left → left ≡ [] → Appends first last text
left_none first last text left h e = subst (Appends first last) (sym (h.split ∙ ap (λ l. h.written ++ l) e ∙ append-nil h.written)) h.grown

pub part_kept : (first between last : Option (List ℕ)) (text : List ℕ) → AppendsPart first between text → Keeps between last → AppendsPart first last text
part_kept first between last text (left, h) k = (left, left_kept first between last text left h k)

-- a first part of a text is one of a longer text
pub part_longer : (first last : Option (List ℕ)) (text more : List ℕ) → AppendsPart first last text → AppendsPart first last (text ++ more)
part_longer first last text more (left, h) =
    (left ++ more, record { written = h.written; split = ap (λ l. l ++ more) h.split ∙ append_assoc h.written left more; grown = h.grown })

-- a text, and then a first part of another
pub part_after : (first between last : Option (List ℕ)) (text more : List ℕ) → Appends first between text → AppendsPart between last more → AppendsPart first last (text ++ more)
part_after first between last text more whole (left, h) =
    (left, record { written = text ++ h.written; split = ap (λ l. text ++ l) h.split ∙ sym (append_assoc text h.written left); grown = Appends-trans first between last text h.written whole h.grown })

pub part_whole : (first last : Option (List ℕ)) (text : List ℕ) → Appends first last text → AppendsPart first last text
part_whole first last text whole = ([], record { written = text; split = sym (append-nil text); grown = whole })
