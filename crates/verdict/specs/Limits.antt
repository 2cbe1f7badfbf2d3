-- Document 01, "The verdict": limits by class, then by test, three to each (004: 5.5.8 text, Tables 7 and 8).
use Rattle.std.specs.Prelude.{ℕ, List, [], ◌∷◌, get_or}
use Rattle.verdict.specs.declared.limits.Limits.{Limits}

-- three to each: TVE in percent, FE in µHz, RFE in µHz/s
abbrev triple : ℕ → ℕ → ℕ → Limits
triple p f r = record { tve = p; fe = f; rfe = r }

-- a row for each class: steady (test 0), ramp (test 1)
abbrev pub table2011 : List (List Limits)
table2011 =
    -- P (class 0)
    (triple 1 5000 10000 ∷ triple 1 10000 100000 ∷ [])
    -- M (class 1)
    ∷ (triple 1 5000 10000 ∷ triple 1 5000 100000 ∷ [])
    ∷ []

-- by class, then by test; limits of 0 where the table ends, which no call reaches that is not refused
abbrev pub limits_in : List (List Limits) → ℕ → ℕ → Limits
limits_in table class test = get_or (get_or table class []) test (triple 0 0 0)

-- the limits for class and test
abbrev pub limits_for : ℕ → ℕ → Limits
limits_for class test = limits_in table2011 class test
