mod SortedNumbers
