-- The theorems about the definitions of specs/. `Demands` has demand1, demand2 and demand3; `Numerals` has read-back; specs/Examples has starred.

-- general laws: tests, lists, positions, pairs, counting
pub mod Laws
pub mod ListLaws
pub mod Positions
pub mod Pairs
pub mod Counting
-- the theory: machines by their moves alone (Together), one machine (Bounds to Moves), machines and transition system together (Simulate), reaching, what
-- passing leaves, thinning, running
pub mod Together
pub mod Bounds
pub mod Places
pub mod Moves
pub mod Simulate
pub mod Reach
pub mod Passed
pub mod Thinning
pub mod Running
-- the published notions: regions, the machine's arcs, the synchronous product
pub mod Regions
pub mod Arcs
pub mod Joint
pub mod Standing
pub mod Product
-- the table: its order, rows 11 and 12, rows 4 to 12
pub mod Order
pub mod Covering
pub mod Limits
pub mod Rows
-- the text: words, lines, the sheet's lines, chains of lines, values, texts, rows 1 to 3
pub mod Words
pub mod Numerals
pub mod Lines
pub mod Sheets
pub mod SheetForms
pub mod Chains
pub mod LineEnds
pub mod OneEvent
pub mod Values
pub mod Texts
pub mod Whole
-- the parts of demand 3: all machines and Run, the kept machines, a list that tells apart
pub mod Faith
pub mod Kept
pub mod Differs
-- the sheets that boards read: names and good lines, row 15; moves; lists of names; the two calls; the sheet of a text, and the board that runs it
pub mod SheetNames
pub mod GoodLines
pub mod Loading
pub mod SheetMoves
pub mod NameLists
pub mod BoardCalls
pub mod BoardNames
pub mod BoardRuns
pub mod OwnSheets
pub mod OwnRuns
-- the services and the demands; Alike, AlikeTexts: what is read hangs neither on the form of line 1 nor on the spelling of steps
pub mod Cases
pub mod Verdicts
pub mod Alike
pub mod AlikeTexts
pub mod Lending
pub mod Naming
pub mod Refusing
pub mod Demands
pub mod Starts
-- merging: coarser machines, one merge, the pass and its one result, the merged text, and what request 4 says
pub mod Coarser
pub mod MergeNumbers
pub mod MergePlaces
pub mod Merging
pub mod MergeResult
pub mod MergedText
pub mod Merges
-- the quotation: amounts, their rebate and their bytes; numbers that pass a test; the lines, their bytes, and what request 6 says
pub mod Cents
pub mod SignedNumerals
pub mod Rising
pub mod Charges
pub mod Totals
pub mod Longest
pub mod Quotes
-- spelling: sheets respelt; names that are one event in other words, and texts respelt; a text and a sheet that are
pub mod SheetsAlike
pub mod SheetSpellings
pub mod Spellings
pub mod Respelt
