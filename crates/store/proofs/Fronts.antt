-- The cells in the front of a memory of words.
use Rattle.std.proofs.Common.{◌≡◌, ℕ, ◌<◌, ◌≤◌, List, ◌++◌, length, set, arith}
use Rattle.layout.specs.Layout.{cell_count}
use Rattle.std.proofs.lemmas.List.{drop-set-lt, length-take, take-append-drop}
use Rattle.store.specs.Words.{word_cells, word_rest}
use lib.Seq.{take-set-lt}

module _ (ws : List ℕ) where
  pub front_whole : word_cells ws ++ word_rest ws ≡ ws
  unfolding word_cells word_rest
  front_whole = take-append-drop cell_count ws

  pub front_long : length (word_cells ws) ≤ length ws
  unfolding word_cells
  front_long = omega (arith, length-take cell_count ws)

  module _ (c : ℕ) (inside : c < length (word_cells ws)) where
    pub front_set : (v : ℕ) → word_cells (set ws c v) ≡ set (word_cells ws) c v
    unfolding word_cells
    front_set v = take-set-lt cell_count ws c v (omega (arith, length-take cell_count ws))

    pub front_rest : (v : ℕ) → word_rest (set ws c v) ≡ word_rest ws
    unfolding word_cells word_rest
    front_rest v = drop-set-lt cell_count ws c v (omega (arith, length-take cell_count ws))

-- what a word written leaves
pub ruleset fronts = (front_long, front_set, front_rest)
