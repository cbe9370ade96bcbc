-- The table of the worked examples, and what is shown on it. Assumes nothing.
use Rattle.std.specs.Prelude.{ℕ, List, [], ◌∷◌, pos}
use Rattle.schedule.specs.declared.answer.Look.{Look}

-- cell 0 is 46,800 and cell 1 is 1; row 1: 8190, 254, 4294967294, plan 1; row 2: 4096, 254, 33554432, plan 2;
-- plan 1, from cell 130: 06:00 tariff 1, 22:00 tariff 2; plan 2, from cell 166: 00:00 tariff 3; the others are 0
unfoldable pub cells : List ℕ
cells =
    46800 ∷ 1 ∷ 8190 ∷ 254 ∷ 4294967294 ∷ 1 ∷ 4096 ∷ 254 ∷ 33554432 ∷ 2 ∷ 0 ∷ 0 ∷ 0 ∷
    0 ∷ 0 ∷ 0 ∷ 0 ∷ 0 ∷ 0 ∷ 0 ∷ 0 ∷ 0 ∷ 0 ∷ 0 ∷ 0 ∷ 0 ∷
    0 ∷ 0 ∷ 0 ∷ 0 ∷ 0 ∷ 0 ∷ 0 ∷ 0 ∷ 0 ∷ 0 ∷ 0 ∷ 0 ∷ 0 ∷
    0 ∷ 0 ∷ 0 ∷ 0 ∷ 0 ∷ 0 ∷ 0 ∷ 0 ∷ 0 ∷ 0 ∷ 0 ∷ 0 ∷ 0 ∷
    0 ∷ 0 ∷ 0 ∷ 0 ∷ 0 ∷ 0 ∷ 0 ∷ 0 ∷ 0 ∷ 0 ∷ 0 ∷ 0 ∷ 0 ∷
    0 ∷ 0 ∷ 0 ∷ 0 ∷ 0 ∷ 0 ∷ 0 ∷ 0 ∷ 0 ∷ 0 ∷ 0 ∷ 0 ∷ 0 ∷
    0 ∷ 0 ∷ 0 ∷ 0 ∷ 0 ∷ 0 ∷ 0 ∷ 0 ∷ 0 ∷ 0 ∷ 0 ∷ 0 ∷ 0 ∷
    0 ∷ 0 ∷ 0 ∷ 0 ∷ 0 ∷ 0 ∷ 0 ∷ 0 ∷ 0 ∷ 0 ∷ 0 ∷ 0 ∷ 0 ∷
    0 ∷ 0 ∷ 0 ∷ 0 ∷ 0 ∷ 0 ∷ 0 ∷ 0 ∷ 0 ∷ 0 ∷ 0 ∷ 0 ∷ 0 ∷
    0 ∷ 0 ∷ 0 ∷ 0 ∷ 0 ∷ 0 ∷ 0 ∷ 0 ∷ 0 ∷ 0 ∷ 0 ∷ 0 ∷ 0 ∷
    6 ∷ 0 ∷ 1 ∷ 22 ∷ 0 ∷ 2 ∷ 0 ∷ 0 ∷ 0 ∷ 0 ∷ 0 ∷ 0 ∷ 0 ∷
    0 ∷ 0 ∷ 0 ∷ 0 ∷ 0 ∷ 0 ∷ 0 ∷ 0 ∷ 0 ∷ 0 ∷ 0 ∷ 0 ∷ 0 ∷
    0 ∷ 0 ∷ 0 ∷ 0 ∷ 0 ∷ 0 ∷ 0 ∷ 0 ∷ 0 ∷ 0 ∷ 0 ∷ 0 ∷ 3 ∷ []

-- local time, row, plan, event's plan, event, days back, tariff and last second
abbrev pub shown : ℕ → ℕ → ℕ → ℕ → ℕ → ℕ → ℕ → ℕ → Look
shown l r p q e b x n =
    record {
      local_time = pos l;
      row = r;
      plan = p;
      event_plan = q;
      event = e;
      days_back = b;
      tariff = x;
      last_second = n;
    }

abbrev pub seconds : List ℕ
seconds = 1711846799 ∷ 1711846800 ∷ 1729990799 ∷ 1729990800 ∷ 1735081199 ∷ 1735081200 ∷ 1735167600 ∷ []

-- what is shown at these seconds
abbrev pub worked : List Look
worked =
    shown 1711850399 1 1 1 2 1 2 1711846799 ∷
    shown 1711854000 1 1 1 2 1 2 1711857599 ∷
    shown 1729997999 1 1 1 2 1 2 1729990799 ∷
    shown 1729994400 1 1 1 2 1 2 1730005199 ∷
    shown 1735084799 1 1 1 2 0 2 1735081199 ∷
    shown 1735084800 2 2 2 1 0 3 1735167599 ∷
    shown 1735171200 1 1 2 1 1 3 1735189199 ∷ []
