-- The refusals of a header one by one, in their order, and what a header that passes them opens. Assumes nothing.
use mathlib.Core.Path.{◌≡◌}
use mathlib.Core.Bool.{true, false, ◌||◌}
use mathlib.Core.List.{List}
use Prim.Native.Nat.{ℕ, ◌≤◌, ◌<◌}
use lib.Dec.{eqb}
use lib.ListN.{length}
use borrow.Author.Tests.{lt-ltb, le-ltb}
use Rattle.sampling.specs.Tags.{served_nominal, served_rate}
use Rattle.header.specs.Header.{refused, headed, is_mark, version_in, served_version, nominal_in, rate_in, opening_in}

module _ (h : List ℕ) where
  pub too_short_lem : length h < 11 → refused 14 ≡ headed h
  unfolding headed
  too_short_lem l = rw (lt-ltb (length h) 11 l)

  module _ (long : 11 ≤ length h) where
    pub no_mark_lem : is_mark h ≡ false → refused 12 ≡ headed h
    unfolding headed
    no_mark_lem m = rw (le-ltb (length h) 11 long, m)

    module _ (marked : is_mark h ≡ true) where
      pub no_version_lem : served_version (version_in h) ≡ false → refused 13 ≡ headed h
      unfolding headed
      no_version_lem v = rw (le-ltb (length h) 11 long, marked, v)

      module _ (versioned : served_version (version_in h) ≡ true) where
        pub no_nominal_lem : served_nominal (nominal_in h) ≡ false → refused 6 ≡ headed h
        unfolding headed
        no_nominal_lem n = rw (le-ltb (length h) 11 long, marked, versioned, n)

        module _ (served : served_nominal (nominal_in h) ≡ true) where
          pub no_rate_lem : (served_rate (nominal_in h) (rate_in h) || eqb (rate_in h) 0) ≡ false → refused 7 ≡ headed h
          unfolding headed
          no_rate_lem r = rw (le-ltb (length h) 11 long, marked, versioned, served, r)

          pub all_passed : (served_rate (nominal_in h) (rate_in h) || eqb (rate_in h) 0) ≡ true → opening_in h ≡ headed h
          unfolding headed
          all_passed r = rw (le-ltb (length h) 11 long, marked, versioned, served, r)
