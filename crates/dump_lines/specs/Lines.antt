-- 02, CR 13, rules 3 to 5: no physical line is held twice; each held line's physical line is the one its name maps to, with that page's permission;
-- every unchanged held line equals memory. What a name maps to is any map of homes.
use Rattle.std.specs.Prelude.{ℕ, ◌+◌, Bool, true, false, not, ◌&&◌, ◌||◌, cond, List, [], ◌∷◌, eqb, Option, Some, None}
use Rattle.board.specs.declared.Shape.{Shape}
use Rattle.board.specs.declared.Home.{Home}
use Rattle.line_bytes.specs.Bytes.{line_of}
use Rattle.lines.specs.Records.{line_at}
use Rattle.lines.specs.Holds.{holds_at}
use Rattle.lines.specs.declared.Line.{Line}
use Rattle.stores.specs.Stores.{Store}
use Rattle.doubles.specs.Doubles.{first_double}

-- two bits are equal; two lists are
abbrev pub same_bit : Bool → Bool → Bool
same_bit a b = cond a b (not b)

unfoldable pub same_list : List ℕ → List ℕ → Bool
same_list [] [] = true
same_list [] (y ∷ ys) = false
same_list (x ∷ xs) [] = false
same_list (x ∷ xs) (y ∷ ys) = eqb x y && same_list xs ys

-- one more than the physical line that record i holds; 0 if it holds none
unfoldable pub held_line : Shape → List ℕ → ℕ → ℕ
held_line s records i = cond (holds_at s records i) ((line_at records i).physical + 1) 0

-- rule 3: the lowest place whose physical line a higher place holds too
unfoldable pub doubled_line : Shape → List ℕ → Option ℕ
doubled_line s records = first_double (held_line s records) s.lines

-- a home is this physical line, with this permission
unfoldable pub home_is : Option Home → ℕ → Bool → Bool
home_is (Some hm) p w = eqb hm.line p && same_bit hm.write w
home_is None p w = false

-- a line's physical line is the one its name maps to, with that page's permission
unfoldable pub at_home : (ℕ → Option Home) → Line → Bool
at_home home l = home_is (home l.name) l.physical l.write

-- rule 4: record i holds a line that is not at home
unfoldable pub astray : Shape → (ℕ → Option Home) → Store → ℕ → Bool
astray s home x i = holds_at s x.records i && not (at_home home (line_at x.records i))

-- rule 5: record i holds an unchanged line that differs from memory
unfoldable pub stale : Shape → Store → ℕ → Bool
stale s x i =
    holds_at s x.records i && (not (line_at x.records i).changed
    && not (same_list (line_of x.cache i) (line_of x.memory (line_at x.records i).physical)))

-- record i holds a line that breaks a rule alone
unfoldable pub breaks_alone : Shape → (ℕ → Option Home) → Store → ℕ → Bool
breaks_alone s home x i = astray s home x i || stale s x i
