-- Cells of an image in words: as many as there are, and none past them.
use Rattle.std.proofs.Common.{◌≡◌, ℕ, ◌≤◌, List, [], ◌++◌, length, take, drop, refl, ap, ◌∙◌, append-nil, arith, take_at}
use Rattle.std.proofs.lemmas.List.{drop_all, take_all}
use Rattle.layout.specs.Layout.{cell_count}
use Rattle.store.specs.Words.{word_cells, word_rest}
use Rattle.engine.specs.Book.{unedited}
use Rattle.history.specs.declared.calls.Call.{Call}
use Rattle.history.specs.Book.{kept}
use Rattle.archive.proofs.Written.{overwritten_by}
use Rattle.image.specs.Image.{image_cells}
use Rattle.image.specs.Laws.{image_few}
use Rattle.reread.specs.Found.{cells_after}

few_words : (cs : List ℕ) → length cs ≤ cell_count → word_cells cs ≡ cs
unfolding word_cells
few_words cs h = take_all cell_count cs h

no_rest : (cs : List ℕ) → length cs ≤ cell_count → word_rest cs ≡ []
unfolding word_rest
no_rest cs h = drop_all cell_count cs h

-- a memory that was lent and came back as w
came_back : (len : ℕ) (w items : List ℕ) → length w ≡ len → take len (w ++ drop (length w) items) ≡ w
came_back len w items e = take_at w (drop (length w) items) len e

pub booked : (image : List ℕ) (calls : List Call) (len : ℕ) (w items cs : List ℕ) → length w ≡ len → cs ≡ image_cells image
    → w ≡ (kept (unedited (word_cells cs)) calls).cells ++ word_rest cs → word_cells (take len (w ++ drop (length w) items)) ≡ cells_after image calls
booked image calls len w items cs l e h =
    let few = image_few image in
    let whole : length cs ≤ cell_count = omega (arith, ap length e) in
    let first = few_words cs whole in
    let rest = no_rest cs whole in
    let kept-few : length (cells_after image calls) ≤ cell_count = omega (arith, (overwritten_by (unedited (image_cells image)) calls (cells_after image calls) refl).size) in
    let last : w ≡ cells_after image calls = h ∙ rw (first, rest, e) (append-nil (cells_after image calls)) in
    ap word_cells (came_back len w items l ∙ last) ∙ few_words (cells_after image calls) kept-few
