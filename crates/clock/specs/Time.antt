-- What a clock means, and what passing seconds make of it. Assumes nothing.
use Rattle.std.specs.Prelude.{◌≡◌, ℕ, ◌+◌, ◌-◌, ◌≤◌, cond, Some, None, Option, nat_le}

-- a time, which is a second counted from 1970-01-01 00:00 UTC or absent, and a span, the further seconds that are vouched for
abbrev pub Meaning : Type 0
Meaning = Option ℕ × ℕ

-- the last second that any clock can show
abbrev pub final_second : ℕ
final_second = 4294967295

-- the span is 0 without a time, and time plus span never passes the last second
abbrev pub Sound : Meaning → Type 0
Sound (None, span) = span ≡ 0
Sound (Some t, span) = t + span ≤ final_second

-- n seconds change nothing without a time; within the span they go from the span to the time, and beyond it the time is lost
abbrev pub passed : Meaning → ℕ → Meaning
passed (None, span) n = (None, span)
passed (Some t, span) n = cond (nat_le n span) (Some (t + n), span - n) (None, 0)

-- the span that ends with the given second, 0 without a time
abbrev pub span_to : ℕ → Option ℕ → ℕ
span_to end None = 0
span_to end (Some t) = end - t

-- a time that is vouched for up to the given second
abbrev pub until : ℕ → Option ℕ → Meaning
until end time = (time, span_to end time)
