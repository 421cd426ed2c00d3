mod Five
